-- What a lookup finds in an archive is what std's map has.
use Rattle.std.proofs.Common.{◌≡◌, zero, suc, ◌+◌, List, [], ◌∷◌, Option, Some, None, refl, sym, ap, ◌∙◌, arith}
use Rattle.std.specs.BTreeMap.{is_at}
use Rattle.std.specs.Cmp.Lexicographic.{pointwise}
use Rattle.std.specs.List.{AllByRecursion}
use Rattle.std.specs.List.Sorted.{IsStrictlySortedBy}
use Rattle.std.specs.Map.{keys_of, lookup}
use Rattle.std.specs.Option.{option_map}
use Rattle.std.specs.Ordering.{is_eq}
use Rattle.std.specs.Prelude.{Bool, true, false, MatchOption, IfSome, cond, map, ◌&&◌}
use Rattle.std.specs.declared.cmp.Ordering.{Ordering}
use Rattle.std.specs.declared.cmp.Ordering.TheVariants.{Less, Equal, Greater}
use Rattle.rkyv_btree_convert.specs.RoundTrip.{both_mean}
use Rattle.rkyv_btree_view.specs.Lookup.{Only}
use Rattle.rkyv_btree_walk.specs.Search.{IsHit}

module _ {A B : Type 0} (comparison : A → Ordering) where
  abbrev at : A × B → Ordering
  at e = comparison e.0

  -- of a list: it has no hit, or one with this value
  abbrev Looks : List (A × B) → Option B → Type 0
  Looks m r = MatchOption r ((e : A × B) → IsHit at m e → ⊥) (λ v. (e : A × B) × IsHit at m e × (e.1 ≡ v))

  looks_behind : (x : A × B) (m : List (A × B)) → (comparison x.0 ≡ Equal → ⊥) → (r : Option B) → Looks m r → Looks (x ∷ m) r
  looks_behind x m unequal None none = no_hit
    where
      no_hit : (e : A × B) → IsHit at (x ∷ m) e → ⊥
      no_hit e (is, zero, l, i) = let same : x ≡ e = i x in unequal (rw same is)
      no_hit e (is, suc n, l, i) = none e (is, n, omega arith, i)
  looks_behind x m unequal (Some v) (e, hit, is) = let l = hit.2 in (e, (hit.0, suc hit.1, omega arith, hit.3), is)

  looks : (m : List (A × B)) → Looks m (lookup (is_at comparison) m)
  looks [] = λ e hit. absurd (let l = hit.2 in omega arith)
  looks (x ∷ m) =
      elim (comparison x.0) as (λ o. comparison x.0 ≡ o → Looks (x ∷ m) (cond (is_eq o) (Some x.1) (lookup (is_at comparison) m))) [
        | Less ↦ λ e. looks_behind x m (λ g. cc) (lookup (is_at comparison) m) (looks m)
        | Equal ↦ λ e. (x, (e, zero, omega arith, λ d. refl), refl)
        | Greater ↦ λ e. looks_behind x m (λ g. cc) (lookup (is_at comparison) m) (looks m)
      ] refl

  -- the only entry that gives Equal has the value that is looked up
  pub only_looked_up : (m : List (A × B)) (found : Option (A × B)) → Only at m found → option_map (λ e. e.1) found ≡ lookup (is_at comparison) m
  only_looked_up m found only = case (lookup (is_at comparison) m) (looks m)
    where
      not_found : (f : Option (A × B)) → IfSome f (IsHit at m) → ((e : A × B) → IsHit at m e → ⊥) → option_map (λ e. e.1) f ≡ None
      not_found None hit none = refl
      not_found (Some e) hit none = absurd (none e hit)

      case : (r : Option B) → Looks m r → option_map (λ e. e.1) found ≡ r
      case None none = not_found found only.hit none
      case (Some v) (e, hit, is) = ap (option_map (λ e. e.1)) (only.alone e hit) ∙ ap Some is

-- what is looked up by a meaning is what is looked up by a key, where the keys are compared alike
pub lookup_meant : {T A U B : Type 0} (comparison : A → Ordering) (compared : T → Ordering) (key : T → A) (value : U → B) → ((t : T) → compared t ≡ comparison (key t)) → (m : List (T × U)) → lookup (is_at comparison) (both_mean key value m) ≡ option_map value (lookup (is_at compared) m)
lookup_meant comparison compared key value alike [] = refl
lookup_meant {U = U} comparison compared key value alike (e ∷ m) = rw (alike e.0) (case (is_eq (comparison (key e.0))) (lookup_meant comparison compared key value alike m))
  where
    case : (z : Bool) → lookup (is_at comparison) (both_mean key value m) ≡ option_map value (lookup (is_at compared) m) → cond z (Some (value e.1)) (lookup (is_at comparison) (both_mean key value m)) ≡ option_map value (cond z (Some e.1) (lookup (is_at compared) m))
    case true rest = refl
    case false rest = rest

-- where keys ascend, so does what they mean
module _ {T A U B : Type 0} (cmp : T → T → Ordering) (order : A → A → Ordering) (key : T → A) (value : U → B) (ordered : (x y : T) → cmp x y ≡ order (key x) (key y)) where
  below_meant : (x : T) (m : List (T × U)) → AllByRecursion (λ y. cmp x y ≡ Less) (keys_of m) → AllByRecursion (λ y. order (key x) y ≡ Less) (map (λ e. e.0) (both_mean key value m))
  below_meant x [] h = tt
  below_meant x (e ∷ m) h = (rw (← ordered x e.0) h.0, below_meant x m h.1)

  pub ascending_meant : (m : List (T × U)) → IsStrictlySortedBy cmp (keys_of m) → IsStrictlySortedBy order (map (λ e. e.0) (both_mean key value m))
  unfolding IsStrictlySortedBy
  ascending_meant [] h = tt
  ascending_meant (e ∷ m) h = (below_meant e.0 m h.0, ascending_meant m h.1)

-- entries are the same as what they mean, one by one, where their keys and their values are
pub same_as_meant : {T A U B : Type 0} (same_key : A → T → Bool) (same_value : B → U → Bool) (key : T → A) (value : U → B) → ((t : T) → same_key (key t) t ≡ true) → ((u : U) → same_value (value u) u ≡ true)
    → (m : List (T × U)) → pointwise (λ e n. same_key e.0 n.0 && same_value e.1 n.1) (both_mean key value m) m ≡ true
same_as_meant same_key same_value key value keys values [] = refl
same_as_meant same_key same_value key value keys values (e ∷ m) = rw (keys e.0, values e.1) (same_as_meant same_key same_value key value keys values m)
