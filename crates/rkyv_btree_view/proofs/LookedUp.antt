-- In a map whose keys increase a lookup finds what std's lookup finds in the list.
use Rattle.std.proofs.Common.{◌≡◌, ℕ, ◌+◌, zero, suc, List, [], ◌∷◌, Option, Some, None, Bool, true, false, refl, sym, ap, ◌∙◌, arith}
use Rattle.std.specs.BTreeMap.{is_at}
use Rattle.std.specs.List.{find, slice_get}
use Rattle.std.specs.Map.{keys_of, lookup, lookup_entry}
use Rattle.std.specs.Option.{option_map}
use Rattle.std.specs.Ordering.{is_eq}
use Rattle.std.specs.Prelude.{MatchOption, IfSome, IsSome, IsTrue, Contains, is_some, cond, map, ◌↔◌}
use Rattle.std.specs.declared.cmp.Ordering.{Ordering}
use Rattle.std.specs.declared.cmp.Ordering.TheVariants.{Less, Equal, Greater}
use Rattle.rkyv_btree_portable.specs.Kind.{Kind}
use Rattle.rkyv_btree_format.specs.Layout.{layout_of, key_at}
use Rattle.rkyv_btree_format.specs.Read.{entry_at, map_tree, read_map}
use Rattle.rkyv_btree_shape.specs.Tree.{list}
use Rattle.rkyv_btree_format.specs.Increasing.{Increasing}
use Rattle.rkyv_btree_view.specs.Lookup.{found_at, Only}
use Rattle.rkyv_btree_view.specs.Query.{IsCut, ComparesAs}
use Rattle.rkyv_btree_view.proofs.Lookups.{some_mapped}
use Rattle.rkyv_btree_view.specs.laws.Increasing.{increasing_finds}
use Rattle.rkyv_btree_walk.proofs.Hits.{probe_finds}
use Rattle.rkyv_btree_walk.specs.mirror.Search.{IsListed}
use Rattle.rkyv_btree_walk.specs.Search.{AnyHit, IsHit, OrderedBy, probe}
use mathlib.Core.Path.{fun_ext}

module _ {A B : Type 0} (comparison : A → Ordering) where
  abbrev at : A × B → Ordering
  at e = comparison e.0

  -- of a list: it has no hit, or this one
  abbrev Looks : List (A × B) → Option (A × B) → Type 0
  Looks m r = MatchOption r ((e : A × B) → IsHit at m e → ⊥) (λ e. IsHit at m e)

  looks_behind : (x : A × B) (m : List (A × B)) → (comparison x.0 ≡ Equal → ⊥) → (r : Option (A × B)) → Looks m r → Looks (x ∷ m) r
  looks_behind x m unequal None none = no_hit
    where
      no_hit : (e : A × B) → IsHit at (x ∷ m) e → ⊥
      no_hit e (is, zero, l, i) = let same : x ≡ e = i x in unequal (rw same is)
      no_hit e (is, suc n, l, i) = none e (is, n, omega arith, i)
  looks_behind x m unequal (Some e) hit = let l = hit.2 in (hit.0, suc hit.1, omega arith, hit.3)

  looks : (m : List (A × B)) → Looks m (lookup_entry (is_at comparison) m)
  looks [] = λ e hit. absurd (let l = hit.2 in omega arith)
  looks (x ∷ m) =
      elim (comparison x.0) as (λ o. comparison x.0 ≡ o → Looks (x ∷ m) (cond (is_eq o) (Some x) (lookup_entry (is_at comparison) m))) [
        | Less ↦ λ e. looks_behind x m (λ g. cc) (lookup_entry (is_at comparison) m) (looks m)
        | Equal ↦ λ e. (e, zero, omega arith, λ d. refl)
        | Greater ↦ λ e. looks_behind x m (λ g. cc) (lookup_entry (is_at comparison) m) (looks m)
      ] refl

  -- the only entry that gives Equal is the one that is looked up
  only_is_looked_up : (m : List (A × B)) (found : Option (A × B)) → Only at m found → found ≡ lookup_entry (is_at comparison) m
  only_is_looked_up m found only = case (lookup_entry (is_at comparison) m) (looks m)
    where
      not_found : (f : Option (A × B)) → IfSome f (IsHit at m) → ((e : A × B) → IsHit at m e → ⊥) → f ≡ None
      not_found None hit none = refl
      not_found (Some e) hit none = absurd (none e hit)

      case : (r : Option (A × B)) → Looks m r → found ≡ r
      case None none = not_found found only.hit none
      case (Some e) hit = only.alone e hit

-- the value that is looked up is that of the entry
pub value_of_entry : {A B : Type 0} (test : A → Bool) (m : List (A × B)) → option_map (λ e. e.1) (lookup_entry test m) ≡ lookup test m
value_of_entry test [] = refl
value_of_entry test (e ∷ m) = case (test e.0) (value_of_entry test m)
  where
    case : (z : Bool) → option_map (λ e. e.1) (lookup_entry test m) ≡ lookup test m → option_map (λ e. e.1) (cond z (Some e) (lookup_entry test m)) ≡ cond z (Some e.1) (lookup test m)
    case true rest = refl
    case false rest = rest

-- and the key that is found among the keys is the entry's
pub key_of_entry : {A B : Type 0} (test : A → Bool) (m : List (A × B)) → option_map (λ e. e.0) (lookup_entry test m) ≡ find test (keys_of m)
key_of_entry test [] = refl
key_of_entry test (e ∷ m) = case (test e.0) (key_of_entry test m)
  where
    case : (z : Bool) → option_map (λ e. e.0) (lookup_entry test m) ≡ find test (keys_of m) → option_map (λ e. e.0) (cond z (Some e) (lookup_entry test m)) ≡ cond z (Some e.0) (find test (keys_of m))
    case true rest = refl
    case false rest = rest

-- two tests that agree on what is read find the same
alike : {P A B : Type 0} (means : P → A × B) (s t : A → Bool) → ((p : P) → s (means p).0 ≡ t (means p).0) → (ps : List P) → lookup_entry s (map means ps) ≡ lookup_entry t (map means ps)
alike means s t same [] = refl
alike means s t same (p ∷ ps) = rw (same p, alike means s t same ps) refl

-- where an entry is found that is equal, some entry is
pub found_hit : {Y : Type 0} (comparison : Y → Ordering) (m : List Y) (found : Option Y) → IfSome found (IsHit comparison m) → IsTrue (is_some found) → AnyHit comparison m
found_hit comparison m None hit some = absurd (cc some)
found_hit comparison m (Some e) hit some = (hit.1, hit.2, λ d. rw (hit.3 d) hit.0)

-- the image of an element is one of the images
contains_image : {X Y : Type 0} (f : X → Y) (x : X) (xs : List X) (i : ℕ) → slice_get xs i ≡ Some x → Contains (map f xs) (f x)
contains_image f x [] i e = absurd (grind (arith, e))
contains_image f x (y ∷ ys) zero e = (zero, omega arith, ap f (grind (arith, e)))
contains_image f x (y ∷ ys) (suc i) e = let c = contains_image f x ys i e in let l = c.1 in (suc c.0, omega arith, c.2)

-- so what is read of a listed entry is read of the list
pub listed_read : {X Y : Type 0} (f : X → Y) (xs : List X) (found : Option X) → IfSome found (λ x. IsListed x xs) → IfSome (option_map f found) (Contains (map f xs))
listed_read f xs None h = h
listed_read f xs (Some x) h = contains_image f x xs h.0 h.1

-- what the search of a map finds
module _ (K V : Kind) (E : ℕ) (b : List ℕ) (at : ℕ) (comparison : K.Value → Ordering) (entry : Option (K.Value × V.Value)) (found : entry ≡ found_at K V E b at comparison) where
  -- it is an entry that is equal
  pub found_member : IfSome entry (IsHit (λ e. comparison e.0) (read_map K V E b at))
  found_member = rw found (probe_finds (entry_at K V E b) (λ e. comparison e.0) (map_tree (layout_of K V E) b at) _ refl).hit

  -- and along an ordered list there is one if some entry is equal
  pub found_complete : OrderedBy (λ e. comparison e.0) (read_map K V E b at) → (IsSome entry ↔ AnyHit (λ e. comparison e.0) (read_map K V E b at))
  found_complete = rw found (probe_finds (entry_at K V E b) (λ e. comparison e.0) (map_tree (layout_of K V E) b at) _ refl).complete

-- so whether an entry is looked up is whether its value is
pub some_of_entry : {A B : Type 0} (test : A → Bool) (m : List (A × B)) → is_some (lookup_entry test m) ≡ is_some (lookup test m)
some_of_entry test m = sym (some_mapped (λ e. e.1) (lookup_entry test m)) ∙ ap is_some (value_of_entry test m)

-- and whether a key is
pub some_of_key : {A B : Type 0} (test : A → Bool) (m : List (A × B)) → is_some (lookup test m) ≡ is_some (find test (keys_of m))
some_of_key test m = sym (some_of_entry test m) ∙ sym (some_mapped (λ e. e.0) (lookup_entry test m)) ∙ ap is_some (key_of_entry test m)

module _ (K V : Kind) (E : ℕ) (b : List ℕ) (at : ℕ) (rises : Increasing K.order (read_map K V E b at)) where
  found_by_cut : (comparison : K.Value → Ordering) → IsCut K.order comparison → found_at K V E b at comparison ≡ lookup_entry (is_at comparison) (read_map K V E b at)
  found_by_cut comparison cut =
      let tree = map_tree (layout_of K V E) b at in
      let found = probe_finds (entry_at K V E b) (λ e. comparison e.0) tree _ refl in
      only_is_looked_up comparison (read_map K V E b at) (found_at K V E b at comparison) (increasing_finds K.order (λ e. e.0) comparison cut (entry_at K V E b) tree (found_at K V E b at comparison) found rises)

  -- a query that gives at each key that is read what a cut gives there finds what std's lookup finds
  pub found_is : (comparison cut : K.Value → Ordering) → IsCut K.order cut → ((p : ℕ) → comparison (K.read b p) ≡ cut (K.read b p)) → found_at K V E b at comparison ≡ lookup_entry (is_at comparison) (read_map K V E b at)
  found_is comparison cut is_cut agree =
      let tree = map_tree (layout_of K V E) b at in
      let places = list tree in
      let same : (p : ℕ × ℕ) → comparison (entry_at K V E b p).0 ≡ cut (entry_at K V E b p).0 = λ p. agree (p.0 + key_at (layout_of K V E) p.1) in
      ap (λ (f : ℕ × ℕ → Ordering). option_map (entry_at K V E b) (probe f tree)) (fun_ext same)
      ∙ found_by_cut cut is_cut
      ∙ sym (alike (entry_at K V E b) (is_at comparison) (is_at cut) (λ p. ap is_eq (same p)) places)

-- native values agree with the cut that they are
pub natives_agree : {N : Type 0} {K : Kind} {compared_at : N → List ℕ → ℕ → Ordering} (law : ComparesAs K compared_at) (compared : N → K.Value → Ordering) → ((n : N) (b : List ℕ) (p : ℕ) → compared_at n b p ≡ compared n (K.read b p))
    → (n : N) (b : List ℕ) (p : ℕ) → compared n (K.read b p) ≡ law.compared n (K.read b p)
natives_agree law compared agree n b p = sym (agree n b p) ∙ law.by_value n b p
