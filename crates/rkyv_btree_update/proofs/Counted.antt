-- How many entries a map has after changes whose keys increase: each change counts by whether the map has its key.
use Rattle.std.proofs.Common.{◌≡◌, ℕ, ◌+◌, ◌<◌, ◌≤◌, Bool, true, false, cond, List, [], ◌∷◌, length, map, Option, Some, None, refl, sym, ap, subst, ◌∙◌, arith}
use Rattle.std.proofs.lemmas.List.Sums.{sum_by-cons}
use Rattle.std.proofs.lemmas.Map.Entries.{length-values_of, sum_by-insert_entry, sum_by-remove_entry}
use Rattle.std.specs.BTreeMap.{insert_entry, is_at}
use Rattle.std.specs.Cmp.{IsTotalOrder}
use Rattle.std.specs.List.{AllByRecursion, sum_by}
use Rattle.std.specs.List.Sorted.{IsStrictlySortedBy}
use Rattle.std.specs.Map.{keys_of, lookup, remove_entry, values_of}
use Rattle.std.specs.Option.{option_map, unwrap_or}
use Rattle.std.specs.Ordering.{is_eq, ordering_reverse}
use Rattle.std.specs.Prelude.{is_some}
use Rattle.std.specs.declared.cmp.Ordering.{Ordering}
use Rattle.std.specs.declared.cmp.Ordering.TheVariants.{Less}
use Rattle.rkyv_btree_format.specs.Increasing.{Increasing}
use Rattle.rkyv_btree_update.proofs.Changed.{after_change, sorted_changed}
use Rattle.rkyv_btree_update.specs.Natives.{both}
use Rattle.rkyv_btree_update.specs.Updated.{change_meant, changed, updated, last_word}
use Rattle.rkyv_btree_update.specs.declared.change.Change.{Change}
use Rattle.rkyv_btree_update.specs.declared.change.Change.TheVariants.{Put, Delete}
use Rattle.rkyv_btree_update.specs.Written.{IsCount}
use Rattle.rkyv_btree_update.specs.mirror.Counted.{count_after}

module _ {A B : Type 0} (order : A → A → Ordering) where
  -- the value of a key
  abbrev at : A → List (A × B) → Option B
  at k m = lookup (is_at (order k)) m

  -- the first changes are counted: they make a list of so many entries, in which the keys of the others have what they had
  pub record CountsOn (m : List (A × B)) (all rest : List (A × Change B)) (n : ℕ) : Type 0 where
    pub so_far : List (A × B)
    pub sorted : IsStrictlySortedBy order (keys_of so_far)
    pub increase : IsStrictlySortedBy order (keys_of rest)
    pub count : n ≡ length so_far
    pub leads : updated order m all ≡ updated order so_far rest
    pub alike : AllByRecursion (λ k. at k so_far ≡ at k m) (keys_of rest)

ones : {X : Type 0} (xs : List X) → sum_by (λ _. 1) xs ≡ length xs
ones [] = refl
ones (x ∷ xs) = sum_by-cons (λ _. 1) x xs ∙ omega (arith, ones xs)

module _ {A B : Type 0} {order : A → A → Ordering} (total : IsTotalOrder order) where
  entries : (m : List (A × B)) → sum_by (λ _. 1) (values_of m) ≡ length m
  entries m = ones (values_of m) ∙ length-values_of m

  count_changed : (m : List (A × B)) (c : A × Change B) → IsStrictlySortedBy order (keys_of m) → length (changed order m c) ≡ count_after (is_some (at order c.0 m)) c.1 (length m)
  count_changed m (k, Put v) h =
      let sum = sum_by-insert_entry (λ _. 1) total m k v h in
      elim (at order k m) as (λ o. length (insert_entry order m k v) + unwrap_or (option_map (λ _. 1) o) 0 ≡ length m + 1 → length (insert_entry order m k v) ≡ count_after (is_some o) (Put v) (length m)) [
        | None ↦ λ is. omega (arith, is)
        | Some w ↦ λ is. omega (arith, is)
      ] (rw (entries (insert_entry order m k v), entries m) at sum)
  count_changed m (k, Delete) h =
      let sum = sum_by-remove_entry (λ _. 1) (is_at (order k)) m in
      elim (at order k m) as (λ o. length (remove_entry (is_at (order k)) m) + unwrap_or (option_map (λ _. 1) o) 0 ≡ length m → length (remove_entry (is_at (order k)) m) ≡ count_after {B = B} (is_some o) Delete (length m)) [
        | None ↦ λ is. omega (arith, is)
        | Some w ↦ λ is. omega (arith, is)
      ] (rw (entries (remove_entry (is_at (order k)) m), entries m) at sum)

  same_all : (m : List (A × B)) (ks : List A) → AllByRecursion (λ k. at order k m ≡ at order k m) ks
  same_all m [] = tt
  same_all m (k ∷ ks) = (refl, same_all m ks)

  -- no change is counted
  pub starts : (m : List (A × B)) (all : List (A × Change B)) → Increasing order m → Increasing order all → CountsOn order m all all (length m)
  starts m all h increase = record { so_far = m; sorted = h; increase = increase; count = refl; leads = refl; alike = same_all m (keys_of all) }

  -- a change of one key leaves the values of greater ones
  unchanged : (so_far m : List (A × B)) (c : A × Change B) (ks : List A) → IsStrictlySortedBy order (keys_of so_far) → AllByRecursion (λ k. order c.0 k ≡ Less) ks → AllByRecursion (λ k. at order k so_far ≡ at order k m) ks
      → AllByRecursion (λ k. at order k (changed order so_far c) ≡ at order k m) ks
  unchanged so_far m c [] h later alike = tt
  unchanged so_far m c (k ∷ ks) h later alike =
      let apart : is_at (order k) c.0 ≡ false = ap is_eq (total.antisymm k c.0 ∙ ap ordering_reverse later.0) in
      (after_change total k c so_far h ∙ ap (λ b. last_word (cond b (Some c.1) None) (at order k so_far)) apart ∙ alike.0, unchanged so_far m c ks h later.1 alike.1)

  -- the next one is
  pub goes_on : (m : List (A × B)) (all : List (A × Change B)) (c : A × Change B) (rest : List (A × Change B)) (n : ℕ) → CountsOn order m all (c ∷ rest) n → CountsOn order m all rest (count_after (is_some (at order c.0 m)) c.1 n)
  unfolding IsStrictlySortedBy
  goes_on m all c rest n is = record {
    so_far = changed order is.so_far c;
    sorted = sorted_changed total is.so_far c is.sorted;
    increase = is.increase.1;
    count = ap (λ o. count_after (is_some o) c.1 n) (sym is.alike.0) ∙ ap (count_after (is_some (at order c.0 is.so_far)) c.1) is.count ∙ sym (count_changed is.so_far c is.sorted);
    leads = is.leads;
    alike = unchanged is.so_far m c (keys_of rest) is.sorted is.increase.0 is.alike.1;
  }

  -- all are
  pub ends : (m : List (A × B)) (all : List (A × Change B)) (n : ℕ) → CountsOn order m all [] n → n ≡ length (updated order m all)
  ends m all n is = is.count ∙ sym (ap length is.leads)

-- a change counts as what it shows
pub count_shown : {A B : Type 0} (f : A → B) (has : Bool) (c : Change A) (n : ℕ) → count_after has (change_meant f c) n ≡ count_after has c n
count_shown f true (Put v) n = refl
count_shown f false (Put v) n = refl
count_shown f true Delete n = refl
count_shown f false Delete n = refl

-- and by one more at most
pub one_more : {B : Type 0} (has : Bool) (c : Change B) (n : ℕ) → count_after has c n ≤ n + 1
one_more true (Put v) n = omega arith
one_more false (Put v) n = omega arith
one_more true Delete n = omega arith
one_more false Delete n = omega arith

-- a key is there if what it means is
pub has_meant : {T U A B : Type 0} (key : T → A) (value : U → B) (cmp : T → T → Ordering) (order : A → A → Ordering) (alike : (x y : T) → cmp x y ≡ order (key x) (key y)) (k : T) (m : List (T × U))
    → is_some (lookup (is_at (order (key k))) (map (both key value) m)) ≡ is_some (lookup (is_at (cmp k)) m)
has_meant key value cmp order alike k [] = refl
has_meant key value cmp order alike k (e ∷ m) =
    rw (← alike k e.0) (
    elim (is_eq (cmp k e.0)) as (λ b. is_some (cond b (Some (value e.1)) (lookup (is_at (order (key k))) (map (both key value) m))) ≡ is_some (cond b (Some e.1) (lookup (is_at (cmp k)) m))) [
      | true ↦ refl
      | false ↦ has_meant key value cmp order alike k m
    ])

-- what a count says
pub counted_some : {X : Type 0} (list : List X) {o : Option ℕ} {n : ℕ} → IsCount list o → o ≡ Some n → (n ≡ length list) × (n ≤ 4294967295)
counted_some list is some = subst (λ o. IsCount list o) some is

pub counted_none : {X : Type 0} (list : List X) {o : Option ℕ} → IsCount list o → o ≡ None → 4294967295 < length list
counted_none list is none = subst (λ o. IsCount list o) none is
