-- The map in which the last value of each key counts.
use Rattle.std.proofs.Common.{◌≡◌, Bool, true, false, cond, List, [], ◌∷◌, ◌++◌, reverse, Option, Some, None, refl, sym, ap, ◌∙◌}
use Rattle.std.proofs.lemmas.Grind.{reverse_onto}
use Rattle.std.specs.BTreeMap.{insert_entry, is_at}
use Rattle.std.specs.Cmp.{Equal-is, IsTotalOrder, alike_right}
use Rattle.std.specs.List.{AllByRecursion, fold}
use Rattle.std.specs.List.Sorted.{IsStrictlySortedBy}
use Rattle.std.specs.Map.{keys_of, lookup, lookup_key}
use Rattle.std.specs.Option.{option_or}
use Rattle.std.specs.Ordering.{is_eq, match_ordering, ordering_reverse}
use Rattle.std.specs.declared.cmp.Ordering.{Ordering}
use Rattle.std.specs.declared.cmp.Ordering.TheVariants.{Less, Equal, Greater}
use Rattle.rkyv_btree_convert.specs.Maps.{CountsLast}
use Rattle.rkyv_btree_convert.proofs.RoundTrip.{ascending_stay}

-- choices of one of two values, the first of which is there
module _ {X : Type 0} where
  or_none : (o : Option X) → option_or o None ≡ o
  or_none None = refl
  or_none (Some x) = refl

  or_chosen : (o p : Option X) (b : Bool) (x : X) → option_or (option_or o (cond b (Some x) None)) p ≡ option_or o (cond b (Some x) p)
  or_chosen None p true x = refl
  or_chosen None p false x = refl
  or_chosen (Some y) p b x = refl

  chosen_or : (b : Bool) (x : X) (o p : Option X) → cond b (Some x) (option_or o p) ≡ option_or (cond b (Some x) o) p
  chosen_or true x o p = refl
  chosen_or false x o p = refl

  chosen_once : (b : Bool) (x y : X) (o : Option X) → cond b (Some x) o ≡ cond b (Some x) (cond b (Some y) o)
  chosen_once true x y o = refl
  chosen_once false x y o = refl

  chosen_apart : (b c : Bool) (x y : X) (o : Option X) → (b ≡ true → c ≡ true → ⊥) → cond b (Some x) (cond c (Some y) o) ≡ cond c (Some y) (cond b (Some x) o)
  chosen_apart true true x y o apart = absurd (apart refl refl)
  chosen_apart true false x y o apart = refl
  chosen_apart false c x y o apart = refl

  first_stays : (b : Bool) (x y : X) (o : Option X) → cond b (Some x) o ≡ option_or (cond b (Some x) o) (cond b (Some y) None)
  first_stays true x y o = refl
  first_stays false x y o = sym (or_none o)

  chosen_alone : (b : Bool) (x : X) (o : Option X) → (b ≡ true → o ≡ None) → cond b (Some x) o ≡ option_or o (cond b (Some x) None)
  chosen_alone true x o none = ap (λ p. option_or p (Some x)) (sym (none refl))
  chosen_alone false x o none = sym (or_none o)

pub all_map : {A : Type 0} {P Q : A → Type 0} (xs : List A) → ((x : A) → P x → Q x) → AllByRecursion P xs → AllByRecursion Q xs
all_map [] f all = tt
all_map (x ∷ xs) f all = (f x all.0, all_map xs f all.1)

module _ {A B : Type 0} {order : A → A → Ordering} (total : IsTotalOrder order) where
  module _ (k : A) (v : B) where
    all_put : (P : A → Type 0) (m : List (A × B)) → P k → AllByRecursion P (keys_of m) → AllByRecursion P (keys_of (insert_entry order m k v))
    all_put P [] p all = (p, tt)
    all_put P (e ∷ m) p all =
        elim (order k e.0) as (λ o. AllByRecursion P (keys_of (match_ordering o ((k, v) ∷ e ∷ m) ((e.0, v) ∷ m) (e ∷ insert_entry order m k v)))) [
          | Less ↦ (p, all)
          | Equal ↦ all
          | Greater ↦ (all.0, all_put P m p all.1)
        ]

    pub sorted_put : (m : List (A × B)) → IsStrictlySortedBy order (keys_of m) → IsStrictlySortedBy order (keys_of (insert_entry order m k v))
    unfolding IsStrictlySortedBy
    sorted_put [] h = (tt, tt)
    sorted_put (e ∷ m) h =
        elim (order k e.0) as (λ o. order k e.0 ≡ o → IsStrictlySortedBy order (keys_of (match_ordering o ((k, v) ∷ e ∷ m) ((e.0, v) ∷ m) (e ∷ insert_entry order m k v)))) [
          | Less ↦ λ less. ((less, all_map (keys_of m) (λ y. total.trans k e.0 y less) h.0), h)
          | Equal ↦ λ same. h
          | Greater ↦ λ past. (all_put (λ y. order e.0 y ≡ Less) m (total.antisymm e.0 k ∙ ap ordering_reverse past) h.0, sorted_put m h.1)
        ] refl

    module _ (q : A) where
      tied : (x : A) → order k x ≡ Equal → is_at (order q) x ≡ is_at (order q) k
      tied x same = ap is_eq (sym (alike_right total k x q same))

      untied : (x : A) → order k x ≡ Greater → is_at (order q) x ≡ true → is_at (order q) k ≡ true → ⊥
      untied x past at_x at_k = let same = total.congr q k x ((Equal-is (order q k)).0 at_k) in cc ((Equal-is (order q x)).0 at_x)

      pub lookup_put : (m : List (A × B)) → lookup (is_at (order q)) (insert_entry order m k v) ≡ cond (is_at (order q) k) (Some v) (lookup (is_at (order q)) m)
      lookup_put [] = refl
      lookup_put (e ∷ m) =
          elim (order k e.0) as (λ o. order k e.0 ≡ o → lookup (is_at (order q)) (match_ordering o ((k, v) ∷ e ∷ m) ((e.0, v) ∷ m) (e ∷ insert_entry order m k v)) ≡ cond (is_at (order q) k) (Some v) (lookup (is_at (order q)) (e ∷ m))) [
            | Less ↦ λ less. refl
            | Equal ↦ λ same. rw (tied e.0 same) (chosen_once (is_at (order q) k) v e.1 (lookup (is_at (order q)) m))
            | Greater ↦ λ past. rw (lookup_put m) (chosen_apart (is_at (order q) e.0) (is_at (order q) k) e.1 v (lookup (is_at (order q)) m) (untied e.0 past))
          ] refl

      -- after a key that is equal none is found
      none_behind : is_at (order q) k ≡ true → (m : List (A × B)) → AllByRecursion (λ y. order k y ≡ Less) (keys_of m) → lookup_key (is_at (order q)) m ≡ None
      none_behind at [] below = refl
      none_behind at (e ∷ m) below =
          let same : order q k ≡ Equal = (Equal-is (order q k)).0 at in
          let less : order q e.0 ≡ Less = total.congr q k e.0 same ∙ below.0 in
          rw less (none_behind at m below.1)

      key_put : (m : List (A × B)) → IsStrictlySortedBy order (keys_of m) → lookup_key (is_at (order q)) (insert_entry order m k v) ≡ option_or (lookup_key (is_at (order q)) m) (cond (is_at (order q) k) (Some k) None)
      unfolding IsStrictlySortedBy
      key_put [] h = refl
      key_put (e ∷ m) h =
          elim (order k e.0) as (λ o. order k e.0 ≡ o → lookup_key (is_at (order q)) (match_ordering o ((k, v) ∷ e ∷ m) ((e.0, v) ∷ m) (e ∷ insert_entry order m k v)) ≡ option_or (lookup_key (is_at (order q)) (e ∷ m)) (cond (is_at (order q) k) (Some k) None)) [
            | Less ↦ λ less. chosen_alone (is_at (order q) k) k (lookup_key (is_at (order q)) (e ∷ m)) (λ at. none_behind at (e ∷ m) (less, all_map (keys_of m) (λ y. total.trans k e.0 y less) h.0))
            | Equal ↦ λ same. rw (tied e.0 same) (first_stays (is_at (order q) k) e.0 k (lookup_key (is_at (order q)) m))
            | Greater ↦ λ past. rw (key_put m h.1) (chosen_or (is_at (order q) e.0) e.0 (lookup_key (is_at (order q)) m) (cond (is_at (order q) k) (Some k) None))
          ] refl

  abbrev pub put_in : List (A × B) → List (A × B) → List (A × B)
  put_in m entries = fold (λ m e. insert_entry order m e.0 e.1) m entries

  pub sorted_all : (entries m : List (A × B)) → IsStrictlySortedBy order (keys_of m) → IsStrictlySortedBy order (keys_of (put_in m entries))
  sorted_all [] m h = h
  sorted_all (e ∷ entries) m h = sorted_all entries (insert_entry order m e.0 e.1) (sorted_put e.0 e.1 m h)

  key_all : (q : A) (entries m : List (A × B)) → IsStrictlySortedBy order (keys_of m) → lookup_key (is_at (order q)) (put_in m entries) ≡ option_or (lookup_key (is_at (order q)) m) (lookup_key (is_at (order q)) entries)
  key_all q [] m h = sym (or_none (lookup_key (is_at (order q)) m))
  key_all q (e ∷ entries) m h =
      key_all q entries (insert_entry order m e.0 e.1) (sorted_put e.0 e.1 m h)
      ∙ ap (λ o. option_or o (lookup_key (is_at (order q)) entries)) (key_put e.0 e.1 q m h)
      ∙ or_chosen (lookup_key (is_at (order q)) m) (lookup_key (is_at (order q)) entries) (is_at (order q) e.0) e.0

  lookup_last : (q : A) (xs : List (A × B)) (e : A × B) → lookup (is_at (order q)) (xs ++ e ∷ []) ≡ option_or (lookup (is_at (order q)) xs) (cond (is_at (order q) e.0) (Some e.1) None)
  lookup_last q [] e = refl
  lookup_last q (x ∷ xs) e = rw (lookup_last q xs e) (chosen_or (is_at (order q) x.0) x.1 (lookup (is_at (order q)) xs) (cond (is_at (order q) e.0) (Some e.1) None))

  value_all : (q : A) (entries m : List (A × B)) → lookup (is_at (order q)) (put_in m entries) ≡ option_or (lookup (is_at (order q)) (reverse entries)) (lookup (is_at (order q)) m)
  value_all q [] m = refl
  value_all q (e ∷ entries) m =
      value_all q entries (insert_entry order m e.0 e.1)
      ∙ ap (option_or (lookup (is_at (order q)) (reverse entries))) (lookup_put e.0 e.1 q m)
      ∙ sym (or_chosen (lookup (is_at (order q)) (reverse entries)) (lookup (is_at (order q)) m) (is_at (order q) e.0) e.1)
      ∙ ap (λ o. option_or o (lookup (is_at (order q)) m)) (sym (ap (lookup (is_at (order q))) (reverse_onto entries e []) ∙ lookup_last q (reverse entries) e))

  pub counts_last : (entries : List (A × B)) → CountsLast order entries
  unfolding IsStrictlySortedBy
  counts_last entries = record {
    ascending = sorted_all entries [] tt;
    first_key = λ q. key_all q entries [] tt;
    last_value = λ q. value_all q entries [] ∙ or_none (lookup (is_at (order q)) (reverse entries));
    stay = λ ascend. ascending_stay total entries ascend;
  }
