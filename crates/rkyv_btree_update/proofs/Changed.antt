-- What changes leave of a map's list.
use Rattle.std.proofs.Common.{◌≡◌, Bool, true, false, cond, List, [], ◌∷◌, Option, Some, None, refl, ap, ◌∙◌}
use Rattle.std.proofs.lemmas.Map.Keys.{IsDistinct-from_sorted}
use Rattle.std.proofs.lemmas.Cmp.{eq_by_cmp_equiv}
use Rattle.std.proofs.lemmas.Map.{lookup-remove_entry}
use Rattle.std.specs.BTreeMap.{insert_entry, is_at}
use Rattle.std.specs.Cmp.{Equal-is, IsTotalOrder}
use Rattle.std.specs.List.{AllByRecursion}
use Rattle.std.specs.List.Sorted.{IsStrictlySortedBy}
use Rattle.std.specs.Map.{keys_of, lookup, remove_entry}
use Rattle.std.specs.Ordering.{is_eq, ordering_reverse, match_ordering}
use Rattle.std.specs.declared.cmp.Ordering.{Ordering}
use Rattle.std.specs.declared.cmp.Ordering.TheVariants.{Less, Equal, Greater}
use Rattle.rkyv_btree_convert.proofs.LastWins.{sorted_put, lookup_put, all_map}
use Rattle.rkyv_btree_update.specs.Updated.{changed, updated, last_word}
use Rattle.rkyv_btree_update.specs.declared.change.Change.{Change}
use Rattle.rkyv_btree_update.specs.declared.change.Change.TheVariants.{Put, Delete}

-- what a key has
abbrev at : {A : Type 0} (order : A → A → Ordering) (q : A) {X : Type 0} → List (A × X) → Option X
at order q xs = lookup (is_at (order q)) xs

module _ {A : Type 0} {order : A → A → Ordering} (total : IsTotalOrder order) where
  -- the other way round
  past : (x k : A) → order x k ≡ Less → order k x ≡ Greater
  past x k less = total.antisymm k x ∙ ap ordering_reverse less

  pub less_than_all : (x y : A) (ks : List A) → order x y ≡ Less → AllByRecursion (λ k. order y k ≡ Less) ks → AllByRecursion (λ k. order x k ≡ Less) ks
  less_than_all x y ks less = all_map ks (λ k. total.trans x y k less)

  pub equal_to_less : (x y : A) (ks : List A) → order x y ≡ Equal → AllByRecursion (λ k. order y k ≡ Less) ks → AllByRecursion (λ k. order x k ≡ Less) ks
  equal_to_less x y ks same = all_map ks (λ k less. total.congr x y k same ∙ less)

  pub none_at : (q : A) {X : Type 0} (cs : List (A × X)) → AllByRecursion (λ k. order q k ≡ Less) (keys_of cs) → lookup (is_at (order q)) cs ≡ None
  none_at q [] all = refl
  none_at q (c ∷ cs) all = rw all.0 (none_at q cs all.1)

  at_both_ways : (x y : A) → is_at (order x) y ≡ is_at (order y) x
  at_both_ways x y = ap is_eq (total.antisymm x y) ∙ elim (order y x) as (λ o. is_eq (ordering_reverse o) ≡ is_eq o) [ Less ↦ refl | Equal ↦ refl | Greater ↦ refl ]

module _ {A B : Type 0} {order : A → A → Ordering} (total : IsTotalOrder order) where
  all_removed : (P : A → Type 0) (test : A → Bool) (m : List (A × B)) → AllByRecursion P (keys_of m) → AllByRecursion P (keys_of (remove_entry test m))
  all_removed P test [] all = tt
  all_removed P test (e ∷ m) all =
      elim (test e.0) as (λ b. AllByRecursion P (keys_of (cond b m (e ∷ remove_entry test m)))) [
        | true ↦ all.1
        | false ↦ (all.0, all_removed P test m all.1)
      ]

  sorted_removed : (test : A → Bool) (m : List (A × B)) → IsStrictlySortedBy order (keys_of m) → IsStrictlySortedBy order (keys_of (remove_entry test m))
  unfolding IsStrictlySortedBy
  sorted_removed test [] h = tt
  sorted_removed test (e ∷ m) h =
      elim (test e.0) as (λ b. IsStrictlySortedBy order (keys_of (cond b m (e ∷ remove_entry test m)))) [
        | true ↦ h.1
        | false ↦ (all_removed (λ y. order e.0 y ≡ Less) test m h.0, sorted_removed test m h.1)
      ]

  pub sorted_changed : (m : List (A × B)) (c : A × Change B) → IsStrictlySortedBy order (keys_of m) → IsStrictlySortedBy order (keys_of (changed order m c))
  sorted_changed m (k, Put v) h = sorted_put total k v m h
  sorted_changed m (k, Delete) h = sorted_removed (is_at (order k)) m h

  -- changes leave keys that increase
  pub sorted_updated : (m : List (A × B)) (cs : List (A × Change B)) → IsStrictlySortedBy order (keys_of m) → IsStrictlySortedBy order (keys_of (updated order m cs))
  sorted_updated m [] h = h
  sorted_updated m (c ∷ cs) h = sorted_updated (changed order m c) cs (sorted_changed m c h)

  -- an entry before the key of a change stays, and so before the keys of all changes
  before_changed : (e : A × B) (m : List (A × B)) (c : A × Change B) → order e.0 c.0 ≡ Less → changed order (e ∷ m) c ≡ e ∷ changed order m c
  before_changed e m (k, Put v) less = rw (past total e.0 k less) refl
  before_changed e m (k, Delete) less = rw (past total e.0 k less) refl

  pub before_updated : (e : A × B) (m : List (A × B)) (cs : List (A × Change B)) → AllByRecursion (λ k. order e.0 k ≡ Less) (keys_of cs) → updated order (e ∷ m) cs ≡ e ∷ updated order m cs
  before_updated e m [] all = refl
  before_updated e m (c ∷ cs) all = ap (λ zs. updated order zs cs) (before_changed e m c all.0) ∙ before_updated e (changed order m c) cs all.1

  -- the steps of a merge of a map's list and of changes whose keys increase
  module _ (e : A × B) (m : List (A × B)) (k : A) (cs : List (A × Change B)) where
    -- the entry comes first
    pub entry_first : (c : Change B) → order e.0 k ≡ Less → IsStrictlySortedBy order (keys_of ((k, c) ∷ cs)) → updated order (e ∷ m) ((k, c) ∷ cs) ≡ e ∷ updated order m ((k, c) ∷ cs)
    unfolding IsStrictlySortedBy
    entry_first c less h = before_updated e m ((k, c) ∷ cs) (less, less_than_all total e.0 k (keys_of cs) less h.0)

    pub value_put : (v : B) → order e.0 k ≡ Equal → IsStrictlySortedBy order (keys_of {X = Change B} ((k, Put v) ∷ cs)) → updated order (e ∷ m) ((k, Put v) ∷ cs) ≡ (e.0, v) ∷ updated order m cs
    unfolding IsStrictlySortedBy
    value_put v same h =
        ap (λ o. updated order (match_ordering o ((k, v) ∷ e ∷ m) ((e.0, v) ∷ m) (e ∷ insert_entry order m k v)) cs) (total.antisymm k e.0 ∙ ap ordering_reverse same)
        ∙ before_updated (e.0, v) m cs (equal_to_less total e.0 k (keys_of cs) same h.0)

    pub entry_deleted : order e.0 k ≡ Equal → updated order (e ∷ m) ((k, Delete) ∷ cs) ≡ updated order m cs
    entry_deleted same = ap (λ o. updated order (cond (is_eq o) m (e ∷ remove_entry (is_at (order k)) m)) cs) (total.antisymm k e.0 ∙ ap ordering_reverse same)

    pub put_first : (v : B) → order k e.0 ≡ Less → IsStrictlySortedBy order (keys_of {X = Change B} ((k, Put v) ∷ cs)) → updated order (e ∷ m) ((k, Put v) ∷ cs) ≡ (k, v) ∷ updated order (e ∷ m) cs
    unfolding IsStrictlySortedBy
    put_first v less h =
        ap (λ o. updated order (match_ordering o ((k, v) ∷ e ∷ m) ((e.0, v) ∷ m) (e ∷ insert_entry order m k v)) cs) less
        ∙ before_updated (k, v) (e ∷ m) cs h.0

  none_removed : (k : A) (m : List (A × B)) → AllByRecursion (λ x. order k x ≡ Less) (keys_of m) → remove_entry (is_at (order k)) m ≡ m
  none_removed k [] all = refl
  none_removed k (e ∷ m) all = rw all.0 (ap (λ zs. e ∷ zs) (none_removed k m all.1))

  -- a key that isn't there is deleted: nothing changes
  pub none_deleted : (e : A × B) (m : List (A × B)) (k : A) (cs : List (A × Change B)) → order k e.0 ≡ Less → IsStrictlySortedBy order (keys_of (e ∷ m)) → updated order (e ∷ m) ((k, Delete) ∷ cs) ≡ updated order (e ∷ m) cs
  unfolding IsStrictlySortedBy
  none_deleted e m k cs less h = ap (λ zs. updated order zs cs) (none_removed k (e ∷ m) (less, less_than_all total k e.0 (keys_of m) less h.0))

  -- after the map's last entry
  pub put_last : (k : A) (v : B) (cs : List (A × Change B)) → IsStrictlySortedBy order (keys_of {X = Change B} ((k, Put v) ∷ cs)) → updated order [] ((k, Put v) ∷ cs) ≡ (k, v) ∷ updated order [] cs
  unfolding IsStrictlySortedBy
  put_last k v cs h = before_updated (k, v) [] cs h.0

  -- what a key has after changes whose keys increase
  module _ (q : A) where
    pub after_change : (c : A × Change B) (m : List (A × B)) → IsStrictlySortedBy order (keys_of m) → at order q (changed order m c) ≡ last_word (cond (is_at (order q) c.0) (Some c.1) None) (at order q m)
    after_change (k, Put v) m h = lookup_put total k v q m ∙ elim (is_at (order q) k) as (λ b. cond b (Some v) (at order q m) ≡ last_word (cond b (Some (Put v)) None) (at order q m)) [ true ↦ refl | false ↦ refl ]
    after_change (k, Delete) m h =
        lookup-remove_entry (eq_by_cmp_equiv total) (is_at (order k)) (λ x y is. ap is_eq (total.congr k x y ((Equal-is (order k x)).0 is))) q m (IsDistinct-from_sorted order (keys_of m) h)
        ∙ elim (is_at (order k) q) as (λ b. is_at (order q) k ≡ b → cond b None (at order q m) ≡ last_word (cond (is_at (order q) k) (Some Delete) None) (at order q m)) [
          | true ↦ λ is. rw is refl
          | false ↦ λ is. rw is refl
        ] (at_both_ways total q k)

    pub last_word_counts : (cs : List (A × Change B)) (m : List (A × B)) → IsStrictlySortedBy order (keys_of m) → IsStrictlySortedBy order (keys_of cs) → lookup (is_at (order q)) (updated order m cs) ≡ last_word (lookup (is_at (order q)) cs) (lookup (is_at (order q)) m)
    unfolding IsStrictlySortedBy
    last_word_counts [] m h increase = refl
    last_word_counts ((k, c) ∷ cs) m h increase =
        last_word_counts cs (changed order m (k, c)) (sorted_changed m (k, c) h) increase.1
        ∙ ap (last_word (at order q cs)) (after_change (k, c) m h)
        ∙ elim (is_at (order q) k) as (λ b. is_at (order q) k ≡ b → last_word (at order q cs) (last_word (cond b (Some c) None) (at order q m)) ≡ last_word (cond b (Some c) (at order q cs)) (at order q m)) [
          | true ↦ λ is. rw (none_at total q cs (equal_to_less total q k (keys_of cs) ((Equal-is (order q k)).0 is) increase.0)) refl
          | false ↦ λ is. refl
        ] refl
