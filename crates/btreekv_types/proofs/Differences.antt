-- Two lists that are walked together: what their changes are, and what each key has after them.
use Rattle.std.proofs.Common.{◌≡◌, Bool, true, false, cond, List, [], ◌∷◌, map, Option, Some, None, refl, sym, ap, ◌∙◌}
use Rattle.std.specs.BTreeMap.{is_at}
use Rattle.std.specs.Cmp.{Equal-is, IsTotalOrder}
use Rattle.std.specs.List.{AllByRecursion}
use Rattle.std.specs.List.Sorted.{IsStrictlySortedBy}
use Rattle.std.specs.Map.{keys_of, lookup}
use Rattle.std.specs.Ordering.{is_eq, match_ordering, ordering_reverse}
use Rattle.std.specs.declared.cmp.Ordering.{Ordering}
use Rattle.std.specs.declared.cmp.Ordering.TheVariants.{Less, Equal, Greater}
use Rattle.rkyv_btree_update.proofs.Changed.{equal_to_less, less_than_all, none_at}
use Rattle.rkyv_btree_update.proofs.Compared.{counts, difference}
use Rattle.rkyv_btree_update.proofs.Meant.{puts_meant}
use Rattle.rkyv_btree_update.specs.Natives.{both}
use Rattle.rkyv_btree_update.specs.Updated.{all_put, changes_meant, last_word}
use Rattle.rkyv_btree_update.specs.declared.change.Change.{Change}
use Rattle.rkyv_btree_update.specs.declared.change.Change.TheVariants.{Put, Delete}
use Rattle.rkyv_btree_update.specs.mirror.Compared.{against, compared}
use Rattle.btreekv_types.specs.Differing.{LeadsEach}

module _ {A B : Type 0} (order : A → A → Ordering) (same : B → B → Bool) where
  -- what holds of the keys of both lists holds of those of the changes
  module _ (P : A → Type 0) where
    all_puts : (n : List (A × B)) → AllByRecursion P (keys_of n) → AllByRecursion P (keys_of (all_put n))
    all_puts [] all = tt
    all_puts (f ∷ n) all = (all.0, all_puts n all.1)

    all_against : (e : A × B) (rest : List (A × B) → List (A × Change B)) → ((n : List (A × B)) → AllByRecursion P (keys_of n) → AllByRecursion P (keys_of (rest n)))
        → (n : List (A × B)) → P e.0 → AllByRecursion P (keys_of n) → AllByRecursion P (keys_of (against order same e rest n))
    all_against e rest h [] p all = (p, h [] tt)
    all_against e rest h (f ∷ n) p all =
        elim (order e.0 f.0) as (λ o. AllByRecursion P (keys_of (match_ordering o ((e.0, Delete) ∷ rest (f ∷ n)) (cond (same e.1 f.1) (rest n) ((f.0, Put f.1) ∷ rest n)) ((f.0, Put f.1) ∷ against order same e rest n)))) [
          | Less ↦ (p, h (f ∷ n) all)
          | Equal ↦ elim (same e.1 f.1) as (λ b. AllByRecursion P (keys_of (cond b (rest n) ((f.0, Put f.1) ∷ rest n)))) [ true ↦ h n all.1 | false ↦ (all.0, h n all.1) ]
          | Greater ↦ (all.0, all_against e rest h n p all.1)
        ]

    all_compared : (m n : List (A × B)) → AllByRecursion P (keys_of m) → AllByRecursion P (keys_of n) → AllByRecursion P (keys_of (compared order same m n))
    all_compared [] n em all = all_puts n all
    all_compared (e ∷ m) n em all = all_against e (compared order same m) (λ k. all_compared m k em.1) n em.0 all

  module _ (total : IsTotalOrder order) where
    sorted_puts : (n : List (A × B)) → IsStrictlySortedBy order (keys_of n) → IsStrictlySortedBy order (keys_of (all_put n))
    unfolding IsStrictlySortedBy
    sorted_puts [] h = tt
    sorted_puts (f ∷ n) h = (all_puts (λ k. order f.0 k ≡ Less) n h.0, sorted_puts n h.1)

    sorted_against : (e : A × B) (m : List (A × B)) → IsStrictlySortedBy order (keys_of (e ∷ m))
        → ((n : List (A × B)) → IsStrictlySortedBy order (keys_of n) → IsStrictlySortedBy order (keys_of (compared order same m n)))
        → (n : List (A × B)) → IsStrictlySortedBy order (keys_of n) → IsStrictlySortedBy order (keys_of (against order same e (compared order same m) n))
    unfolding IsStrictlySortedBy
    sorted_against e m em h [] hn = (all_compared (λ k. order e.0 k ≡ Less) m [] em.0 tt, h [] tt)
    sorted_against e m em h (f ∷ n) hn =
        elim (order e.0 f.0) as (λ o. order e.0 f.0 ≡ o → IsStrictlySortedBy order (keys_of (match_ordering o ((e.0, Delete) ∷ compared order same m (f ∷ n)) (cond (same e.1 f.1) (compared order same m n) ((f.0, Put f.1) ∷ compared order same m n)) ((f.0, Put f.1) ∷ against order same e (compared order same m) n)))) [
          | Less ↦ λ less. (all_compared (λ k. order e.0 k ≡ Less) m (f ∷ n) em.0 (less, less_than_all total e.0 f.0 (keys_of n) less hn.0), h (f ∷ n) hn)
          | Equal ↦ λ alike. elim (same e.1 f.1) as (λ b. IsStrictlySortedBy order (keys_of (cond b (compared order same m n) ((f.0, Put f.1) ∷ compared order same m n)))) [
            | true ↦ h n hn.1
            | false ↦ (all_compared (λ k. order f.0 k ≡ Less) m n (equal_to_less total f.0 e.0 (keys_of m) (total.antisymm f.0 e.0 ∙ ap ordering_reverse alike) em.0) hn.0, h n hn.1)
          ]
          | Greater ↦ λ past.
              let before : order f.0 e.0 ≡ Less = total.antisymm f.0 e.0 ∙ ap ordering_reverse past in
              (all_against (λ k. order f.0 k ≡ Less) e (compared order same m) (λ k hk. all_compared (λ y. order f.0 y ≡ Less) m k (less_than_all total f.0 e.0 (keys_of m) before em.0) hk) n before hn.0, sorted_against e m em h n hn.1)
        ] refl

    -- the keys of the changes increase
    sorted_compared : (m n : List (A × B)) → IsStrictlySortedBy order (keys_of m) → IsStrictlySortedBy order (keys_of n) → IsStrictlySortedBy order (keys_of (compared order same m n))
    unfolding IsStrictlySortedBy
    sorted_compared [] n hm hn = sorted_puts n hn
    sorted_compared (e ∷ m) n hm hn = sorted_against e m hm (λ k hk. sorted_compared m k hm.1 hk) n hn

    module _ (faithful : (x y : B) → same x y ≡ true → x ≡ y) (q : A) where
      -- what a key has
      abbrev at : {X : Type 0} → List (A × X) → Option X
      at xs = lookup (is_at (order q)) xs

      same_at : (x y : A) → order x y ≡ Equal → is_at (order q) x ≡ is_at (order q) y
      same_at x y alike = ap is_eq (total.antisymm q x ∙ (ap ordering_reverse (total.congr x y q alike) ∙ sym (total.antisymm q y)))

      none_after : (x : A) {X : Type 0} (xs : List (A × X)) → is_at (order q) x ≡ true → AllByRecursion (λ k. order x k ≡ Less) (keys_of xs) → at xs ≡ None
      none_after x xs is all = none_at total q xs (equal_to_less total q x (keys_of xs) ((Equal-is (order q x)).0 is) all)

      word_puts : (n : List (A × B)) → last_word (at (all_put n)) None ≡ at n
      word_puts [] = refl
      word_puts (f ∷ n) =
          elim (is_at (order q) f.0) as (λ b. last_word (cond b (Some (Put f.1)) (at (all_put n))) None ≡ cond b (Some f.1) (at n)) [ true ↦ refl | false ↦ word_puts n ]

      -- entries with equal keys: the value is the same, or another is put
      module _ (e f : A × B) (m n : List (A × B)) (alike : order e.0 f.0 ≡ Equal) (all : AllByRecursion (λ k. order e.0 k ≡ Less) (keys_of (compared order same m n)))
          (later : last_word (at (compared order same m n)) (at m) ≡ at n) where
        word_kept : same e.1 f.1 ≡ true → last_word (at (compared order same m n)) (at (e ∷ m)) ≡ at (f ∷ n)
        word_kept is =
            elim (is_at (order q) e.0) as (λ b. is_at (order q) e.0 ≡ b → last_word (at (compared order same m n)) (cond b (Some e.1) (at m)) ≡ cond b (Some f.1) (at n)) [
              | true ↦ λ here. ap (λ w. last_word w (Some e.1)) (none_after e.0 (compared order same m n) here all) ∙ ap (λ v. Some v) (faithful e.1 f.1 is)
              | false ↦ λ away. later
            ] refl ∙ ap (λ b. cond b (Some f.1) (at n)) (same_at e.0 f.0 alike)

        word_replaced : last_word (at ((f.0, Put f.1) ∷ compared order same m n)) (at (e ∷ m)) ≡ at (f ∷ n)
        word_replaced =
            elim (is_at (order q) f.0) as (λ b. is_at (order q) f.0 ≡ b → last_word (cond b (Some (Put f.1)) (at (compared order same m n))) (at (e ∷ m)) ≡ cond b (Some f.1) (at n)) [
              | true ↦ λ here. refl
              | false ↦ λ away. ap (λ b. last_word (at (compared order same m n)) (cond b (Some e.1) (at m))) (same_at e.0 f.0 alike ∙ away) ∙ later
            ] refl

      word_against : (e : A × B) (m : List (A × B)) → IsStrictlySortedBy order (keys_of (e ∷ m))
          → ((n : List (A × B)) → IsStrictlySortedBy order (keys_of n) → last_word (at (compared order same m n)) (at m) ≡ at n)
          → (n : List (A × B)) → IsStrictlySortedBy order (keys_of n) → last_word (at (against order same e (compared order same m) n)) (at (e ∷ m)) ≡ at n
      unfolding IsStrictlySortedBy
      word_against e m em h [] hn =
          elim (is_at (order q) e.0) as (λ b. last_word (cond b (Some Delete) (at (compared order same m []))) (cond b (Some e.1) (at m)) ≡ None) [ true ↦ refl | false ↦ h [] tt ]
      word_against e m em h (f ∷ n) hn =
          elim (order e.0 f.0) as (λ o. order e.0 f.0 ≡ o → last_word (at (match_ordering o ((e.0, Delete) ∷ compared order same m (f ∷ n)) (cond (same e.1 f.1) (compared order same m n) ((f.0, Put f.1) ∷ compared order same m n)) ((f.0, Put f.1) ∷ against order same e (compared order same m) n))) (at (e ∷ m)) ≡ at (f ∷ n)) [
            | Less ↦ λ less.
                elim (is_at (order q) e.0) as (λ b. is_at (order q) e.0 ≡ b → last_word (cond b (Some Delete) (at (compared order same m (f ∷ n)))) (cond b (Some e.1) (at m)) ≡ at (f ∷ n)) [
                  | true ↦ λ here. sym (none_after e.0 (f ∷ n) here (less, less_than_all total e.0 f.0 (keys_of n) less hn.0))
                  | false ↦ λ away. h (f ∷ n) hn
                ] refl
            | Equal ↦ λ alike.
                let all = all_compared (λ k. order e.0 k ≡ Less) m n em.0 (equal_to_less total e.0 f.0 (keys_of n) alike hn.0) in
                elim (same e.1 f.1) as (λ b. same e.1 f.1 ≡ b → last_word (at (cond b (compared order same m n) ((f.0, Put f.1) ∷ compared order same m n))) (at (e ∷ m)) ≡ at (f ∷ n)) [
                  | true ↦ λ is. word_kept e f m n alike all (h n hn.1) is
                  | false ↦ λ no. word_replaced e f m n alike all (h n hn.1)
                ] refl
            | Greater ↦ λ past.
                elim (is_at (order q) f.0) as (λ b. last_word (cond b (Some (Put f.1)) (at (against order same e (compared order same m) n))) (at (e ∷ m)) ≡ cond b (Some f.1) (at n)) [ true ↦ refl | false ↦ word_against e m em h n hn.1 ]
          ] refl

      -- after the changes a key has what it has in the second list
      word_compared : (m n : List (A × B)) → IsStrictlySortedBy order (keys_of m) → IsStrictlySortedBy order (keys_of n) → last_word (at (compared order same m n)) (at m) ≡ at n
      unfolding IsStrictlySortedBy
      word_compared [] n hm hn = word_puts n
      word_compared (e ∷ m) n hm hn = word_against e m hm (λ k hk. word_compared m k hm.1 hk) n hn

    -- so the changes lead from the one to the other
    pub compared_leads : ((x : B) → same x x ≡ true) → ((x y : B) → same x y ≡ true → x ≡ y) → (m n : List (A × B)) → IsStrictlySortedBy order (keys_of m) → IsStrictlySortedBy order (keys_of n)
        → LeadsEach order m n (compared order same m n)
    compared_leads reflexive faithful m n hm hn = record {
      increase = sorted_compared m n hm hn;
      counts = counts order same total reflexive m n hm hn;
      leads = λ k. word_compared faithful k m n hm hn;
      exactly = λ exact. (difference order same total reflexive exact faithful m n hm hn).leads;
    }

-- the changes between lists are those between what they mean
module _ {T U A B : Type 0} (cmp : T → T → Ordering) (order : A → A → Ordering) (key : T → A) (value : U → B) (alike : (x y : T) → cmp x y ≡ order (key x) (key y))
    (same : U → U → Bool) (same_meant : B → B → Bool) (same_as : (x y : U) → same x y ≡ same_meant (value x) (value y)) where
  against_meant : (e : T × U) (rest : List (T × U) → List (T × Change U)) (rest_meant : List (A × B) → List (A × Change B))
      → ((n : List (T × U)) → changes_meant key value (rest n) ≡ rest_meant (map (both key value) n))
      → (n : List (T × U)) → changes_meant key value (against cmp same e rest n) ≡ against order same_meant (both key value e) rest_meant (map (both key value) n)
  against_meant e rest rest_meant h [] = ap (λ zs. (key e.0, Delete) ∷ zs) (h [])
  against_meant e rest rest_meant h (f ∷ n) =
      rw (← alike e.0 f.0, ← same_as e.1 f.1) (
      elim (cmp e.0 f.0) as (λ o. changes_meant key value (match_ordering o ((e.0, Delete) ∷ rest (f ∷ n)) (cond (same e.1 f.1) (rest n) ((f.0, Put f.1) ∷ rest n)) ((f.0, Put f.1) ∷ against cmp same e rest n))
      ≡ match_ordering o ((key e.0, Delete) ∷ rest_meant (map (both key value) (f ∷ n))) (cond (same e.1 f.1) (rest_meant (map (both key value) n)) ((key f.0, Put (value f.1)) ∷ rest_meant (map (both key value) n)))
      ((key f.0, Put (value f.1)) ∷ against order same_meant (both key value e) rest_meant (map (both key value) n))) [
        | Less ↦ ap (λ zs. (key e.0, Delete) ∷ zs) (h (f ∷ n))
        | Equal ↦ elim (same e.1 f.1) as (λ b. changes_meant key value (cond b (rest n) ((f.0, Put f.1) ∷ rest n)) ≡ cond b (rest_meant (map (both key value) n)) ((key f.0, Put (value f.1)) ∷ rest_meant (map (both key value) n))) [
          | true ↦ h n
          | false ↦ ap (λ zs. (key f.0, Put (value f.1)) ∷ zs) (h n)
        ]
        | Greater ↦ ap (λ zs. (key f.0, Put (value f.1)) ∷ zs) (against_meant e rest rest_meant h n)
      ])

  pub compared_meant : (m n : List (T × U)) → changes_meant key value (compared cmp same m n) ≡ compared order same_meant (map (both key value) m) (map (both key value) n)
  compared_meant [] n = puts_meant key value n
  compared_meant (e ∷ m) n = against_meant e (compared cmp same m) (compared order same_meant (map (both key value) m)) (compared_meant m) n
