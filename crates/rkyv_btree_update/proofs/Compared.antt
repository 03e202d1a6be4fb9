-- What two lists that are compared give leads from the first to the second.
use Rattle.std.proofs.Common.{◌≡◌, Bool, true, false, cond, List, [], ◌∷◌, Some, refl, sym, ap, ◌∙◌, subst}
use Rattle.std.specs.BTreeMap.{is_at}
use Rattle.std.specs.Cmp.{Equal-is, IsTotalOrder}
use Rattle.std.specs.List.{AllByRecursion}
use Rattle.std.specs.List.Sorted.{IsStrictlySortedBy}
use Rattle.std.specs.Map.{keys_of, lookup}
use Rattle.std.specs.Ordering.{is_eq, match_ordering, ordering_reverse}
use Rattle.std.specs.declared.cmp.Ordering.{Ordering}
use Rattle.std.specs.declared.cmp.Ordering.TheVariants.{Less, Equal, Greater}
use Rattle.rkyv_btree_update.proofs.Changed.{before_updated, equal_to_less, less_than_all, value_put, entry_deleted, put_first, put_last, none_at}
use Rattle.rkyv_btree_update.specs.Differences.{Counts, Differs, IsDifference}
use Rattle.rkyv_btree_update.specs.Updated.{all_put, updated}
use Rattle.rkyv_btree_update.specs.mirror.Compared.{against, compared}
use Rattle.rkyv_btree_update.specs.declared.change.Change.{Change}
use Rattle.rkyv_btree_update.specs.declared.change.Change.TheVariants.{Put, Delete}

module _ {A B : Type 0} (order : A → A → Ordering) (same : B → B → Bool) where
  -- what holds of the keys of both lists holds of those of the changes
  module _ (P : A → Type 0) where
    all_puts : (n : List (A × B)) → AllByRecursion P (keys_of n) → AllByRecursion P (keys_of (all_put n))
    all_puts [] all = tt
    all_puts (f ∷ n) all = (all.0, all_puts n all.1)

    all_against : (e : A × B) (rest : List (A × B) → List (A × Change B)) → ((n : List (A × B)) → AllByRecursion P (keys_of n) → AllByRecursion P (keys_of (rest n)))
        → (n : List (A × B)) → P e.0 → AllByRecursion P (keys_of n) → AllByRecursion P (keys_of (against order same e rest n))
    all_against e rest h [] p all = (p, h [] tt)
    all_against e rest h (f ∷ n) p all =
        elim (order e.0 f.0) as (λ o. AllByRecursion P (keys_of (match_ordering o ((e.0, Delete) ∷ rest (f ∷ n)) (cond (same e.1 f.1) (rest n) ((f.0, Put f.1) ∷ rest n)) ((f.0, Put f.1) ∷ against order same e rest n)))) [
          | Less ↦ (p, h (f ∷ n) all)
          | Equal ↦ elim (same e.1 f.1) as (λ b. AllByRecursion P (keys_of (cond b (rest n) ((f.0, Put f.1) ∷ rest n)))) [ true ↦ h n all.1 | false ↦ (all.0, h n all.1) ]
          | Greater ↦ (all.0, all_against e rest h n p all.1)
        ]

    all_compared : (m n : List (A × B)) → AllByRecursion P (keys_of m) → AllByRecursion P (keys_of n) → AllByRecursion P (keys_of (compared order same m n))
    all_compared [] n em all = all_puts n all
    all_compared (e ∷ m) n em all = all_against e (compared order same m) (λ k. all_compared m k em.1) n em.0 all

  module _ (total : IsTotalOrder order) where
    itself : (x : A) → order x x ≡ Equal
    itself x = elim (order x x) as (λ o. o ≡ ordering_reverse o → o ≡ Equal) [ Less ↦ λ e. cc e | Equal ↦ λ e. refl | Greater ↦ λ e. cc e ] (total.antisymm x x)

    sorted_puts : (n : List (A × B)) → IsStrictlySortedBy order (keys_of n) → IsStrictlySortedBy order (keys_of (all_put n))
    unfolding IsStrictlySortedBy
    sorted_puts [] h = tt
    sorted_puts (f ∷ n) h = (all_puts (λ k. order f.0 k ≡ Less) n h.0, sorted_puts n h.1)

    sorted_against : (e : A × B) (m : List (A × B)) → IsStrictlySortedBy order (keys_of (e ∷ m))
        → ((n : List (A × B)) → IsStrictlySortedBy order (keys_of n) → IsStrictlySortedBy order (keys_of (compared order same m n)))
        → (n : List (A × B)) → IsStrictlySortedBy order (keys_of n) → IsStrictlySortedBy order (keys_of (against order same e (compared order same m) n))
    unfolding IsStrictlySortedBy
    sorted_against e m em h [] hn = (all_compared (λ k. order e.0 k ≡ Less) m [] em.0 tt, h [] tt)
    sorted_against e m em h (f ∷ n) hn =
        elim (order e.0 f.0) as (λ o. order e.0 f.0 ≡ o → IsStrictlySortedBy order (keys_of (match_ordering o ((e.0, Delete) ∷ compared order same m (f ∷ n)) (cond (same e.1 f.1) (compared order same m n) ((f.0, Put f.1) ∷ compared order same m n)) ((f.0, Put f.1) ∷ against order same e (compared order same m) n)))) [
          | Less ↦ λ less. (all_compared (λ k. order e.0 k ≡ Less) m (f ∷ n) em.0 (less, less_than_all total e.0 f.0 (keys_of n) less hn.0), h (f ∷ n) hn)
          | Equal ↦ λ alike. elim (same e.1 f.1) as (λ b. IsStrictlySortedBy order (keys_of (cond b (compared order same m n) ((f.0, Put f.1) ∷ compared order same m n)))) [
            | true ↦ h n hn.1
            | false ↦ (all_compared (λ k. order f.0 k ≡ Less) m n (equal_to_less total f.0 e.0 (keys_of m) (total.antisymm f.0 e.0 ∙ ap ordering_reverse alike) em.0) hn.0, h n hn.1)
          ]
          | Greater ↦ λ past.
              let before : order f.0 e.0 ≡ Less = total.antisymm f.0 e.0 ∙ ap ordering_reverse past in
              (all_against (λ k. order f.0 k ≡ Less) e (compared order same m) (λ k hk. all_compared (λ y. order f.0 y ≡ Less) m k (less_than_all total f.0 e.0 (keys_of m) before em.0) hk) n before hn.0, sorted_against e m em h n hn.1)
        ] refl

    sorted_compared : (m n : List (A × B)) → IsStrictlySortedBy order (keys_of m) → IsStrictlySortedBy order (keys_of n) → IsStrictlySortedBy order (keys_of (compared order same m n))
    unfolding IsStrictlySortedBy
    sorted_compared [] n hm hn = sorted_puts n hn
    sorted_compared (e ∷ m) n hm hn = sorted_against e m hm (λ k hk. sorted_compared m k hm.1 hk) n hn

    module _ (exact : (x y : A) → order x y ≡ Equal → x ≡ y) (faithful : (x y : B) → same x y ≡ true → x ≡ y) where
      abbrev with_key : A → B → A × B
      with_key k b = (k, b)

      same_pair : (e f : A × B) → order e.0 f.0 ≡ Equal → (b : B) → with_key e.0 b ≡ with_key f.0 b
      same_pair e f alike b = ap (λ k. with_key k b) (exact e.0 f.0 alike)

      leads_puts : (n : List (A × B)) → IsStrictlySortedBy order (keys_of n) → updated order [] (all_put n) ≡ n
      unfolding IsStrictlySortedBy
      leads_puts [] h = refl
      leads_puts (f ∷ n) h = put_last total f.0 f.1 (all_put n) (all_puts (λ k. order f.0 k ≡ Less) n h.0, sorted_puts n h.1) ∙ ap (λ zs. f ∷ zs) (leads_puts n h.1)

      leads_against : (e : A × B) (m : List (A × B)) → IsStrictlySortedBy order (keys_of (e ∷ m))
          → ((n : List (A × B)) → IsStrictlySortedBy order (keys_of n) → updated order m (compared order same m n) ≡ n)
          → (n : List (A × B)) → IsStrictlySortedBy order (keys_of n) → updated order (e ∷ m) (against order same e (compared order same m) n) ≡ n
      unfolding IsStrictlySortedBy
      leads_against e m em h [] hn = entry_deleted total e m e.0 (compared order same m []) (itself e.0) ∙ h [] tt
      leads_against e m em h (f ∷ n) hn =
          elim (order e.0 f.0) as (λ o. order e.0 f.0 ≡ o → updated order (e ∷ m) (match_ordering o ((e.0, Delete) ∷ compared order same m (f ∷ n)) (cond (same e.1 f.1) (compared order same m n) ((f.0, Put f.1) ∷ compared order same m n)) ((f.0, Put f.1) ∷ against order same e (compared order same m) n)) ≡ f ∷ n) [
            | Less ↦ λ less. entry_deleted total e m e.0 (compared order same m (f ∷ n)) (itself e.0) ∙ h (f ∷ n) hn
            | Equal ↦ λ alike. elim (same e.1 f.1) as (λ b. same e.1 f.1 ≡ b → updated order (e ∷ m) (cond b (compared order same m n) ((f.0, Put f.1) ∷ compared order same m n)) ≡ f ∷ n) [
              | true ↦ λ is. before_updated total e m (compared order same m n) (all_compared (λ k. order e.0 k ≡ Less) m n em.0 (equal_to_less total e.0 f.0 (keys_of n) alike hn.0))
                  ∙ ap (λ zs. e ∷ zs) (h n hn.1) ∙ ap (λ x. x ∷ n) (same_pair e f alike e.1 ∙ ap (λ b. with_key f.0 b) (faithful e.1 f.1 is))
              | false ↦ λ no. value_put total e m f.0 (compared order same m n) f.1 alike
                  (all_compared (λ k. order f.0 k ≡ Less) m n (equal_to_less total f.0 e.0 (keys_of m) (total.antisymm f.0 e.0 ∙ ap ordering_reverse alike) em.0) hn.0, sorted_compared m n em.1 hn.1)
                  ∙ ap (λ zs. (e.0, f.1) ∷ zs) (h n hn.1) ∙ ap (λ x. x ∷ n) (same_pair e f alike f.1)
            ] refl
            | Greater ↦ λ past.
                let before : order f.0 e.0 ≡ Less = total.antisymm f.0 e.0 ∙ ap ordering_reverse past in
                put_first total e m f.0 (against order same e (compared order same m) n) f.1 before
                (all_against (λ k. order f.0 k ≡ Less) e (compared order same m) (λ k hk. all_compared (λ y. order f.0 y ≡ Less) m k (less_than_all total f.0 e.0 (keys_of m) before em.0) hk) n before hn.0, sorted_against e m em (λ k hk. sorted_compared m k em.1 hk) n hn.1)
                ∙ ap (λ zs. f ∷ zs) (leads_against e m em h n hn.1)
          ] refl

      pub leads : (m n : List (A × B)) → IsStrictlySortedBy order (keys_of m) → IsStrictlySortedBy order (keys_of n) → updated order m (compared order same m n) ≡ n
      unfolding IsStrictlySortedBy
      leads [] n hm hn = leads_puts n hn
      leads (e ∷ m) n hm hn = leads_against e m hm (λ k hk. leads m k hm.1 hk) n hn

    -- each change counts
    module _ (reflexive : (x : B) → same x x ≡ true) where
      later : (q : A) (e : A × B) (m : List (A × B)) → order q e.0 ≡ Greater → lookup (is_at (order q)) m ≡ lookup (is_at (order q)) (e ∷ m)
      later q e m past = rw past refl

      found : (q : A) (e : A × B) (m : List (A × B)) → order q e.0 ≡ Equal → Some e.1 ≡ lookup (is_at (order q)) (e ∷ m)
      found q e m alike = rw alike refl

      -- a change of a later key counts with an entry before it
      counts_later : (e : A × B) (m : List (A × B)) (cs : List (A × Change B)) → AllByRecursion (λ k. order e.0 k ≡ Less) (keys_of cs) → AllByRecursion (Counts order m) cs → AllByRecursion (Counts order (e ∷ m)) cs
      counts_later e m [] less all = tt
      counts_later e m (c ∷ cs) less all =
          (subst (Differs c.1) (later c.0 e m (total.antisymm c.0 e.0 ∙ ap ordering_reverse less.0)) all.0, counts_later e m cs less.1 all.1)

      counts_puts : (n : List (A × B)) → AllByRecursion (Counts order []) (all_put n)
      counts_puts [] = tt
      counts_puts (f ∷ n) = (λ h. cc h, counts_puts n)

      deleted_counts : (e : A × B) (m : List (A × B)) → Counts order (e ∷ m) (e.0, Delete)
      deleted_counts e m = subst (Differs Delete) (found e.0 e m (itself e.0)) (λ h. cc h)

      put_counts : (e f : A × B) (m : List (A × B)) → order f.0 e.0 ≡ Less → AllByRecursion (λ k. order e.0 k ≡ Less) (keys_of m) → Counts order (e ∷ m) (f.0, Put f.1)
      put_counts e f m before all = subst (Differs (Put f.1)) (sym (none_at total f.0 (e ∷ m) (before, less_than_all total f.0 e.0 (keys_of m) before all))) (λ h. cc h)

      other_value : (x y : B) → same x y ≡ false → Differs (Put y) (Some x)
      other_value x y other h = let alike : x ≡ y = cc h in let is : same x y ≡ true = ap (same x) (sym alike) ∙ reflexive x in cc (sym is ∙ other)

      replaced_counts : (e f : A × B) (m : List (A × B)) → order f.0 e.0 ≡ Equal → same e.1 f.1 ≡ false → Counts order (e ∷ m) (f.0, Put f.1)
      replaced_counts e f m alike other = subst (Differs (Put f.1)) (found f.0 e m alike) (other_value e.1 f.1 other)

      counts_against : (e : A × B) (m : List (A × B)) → IsStrictlySortedBy order (keys_of (e ∷ m))
          → ((n : List (A × B)) → IsStrictlySortedBy order (keys_of n) → AllByRecursion (Counts order m) (compared order same m n))
          → (n : List (A × B)) → IsStrictlySortedBy order (keys_of n) → AllByRecursion (Counts order (e ∷ m)) (against order same e (compared order same m) n)
      unfolding IsStrictlySortedBy
      counts_against e m em h [] hn = (deleted_counts e m, counts_later e m (compared order same m []) (all_compared (λ k. order e.0 k ≡ Less) m [] em.0 tt) (h [] tt))
      counts_against e m em h (f ∷ n) hn =
          elim (order e.0 f.0) as (λ o. order e.0 f.0 ≡ o → AllByRecursion (Counts order (e ∷ m)) (match_ordering o ((e.0, Delete) ∷ compared order same m (f ∷ n)) (cond (same e.1 f.1) (compared order same m n) ((f.0, Put f.1) ∷ compared order same m n)) ((f.0, Put f.1) ∷ against order same e (compared order same m) n))) [
            | Less ↦ λ less. (deleted_counts e m, counts_later e m (compared order same m (f ∷ n)) (all_compared (λ k. order e.0 k ≡ Less) m (f ∷ n) em.0 (less, less_than_all total e.0 f.0 (keys_of n) less hn.0)) (h (f ∷ n) hn))
            | Equal ↦ λ alike.
                let rest = counts_later e m (compared order same m n) (all_compared (λ k. order e.0 k ≡ Less) m n em.0 (equal_to_less total e.0 f.0 (keys_of n) alike hn.0)) (h n hn.1) in
                elim (same e.1 f.1) as (λ b. same e.1 f.1 ≡ b → AllByRecursion (Counts order (e ∷ m)) (cond b (compared order same m n) ((f.0, Put f.1) ∷ compared order same m n))) [
                  | true ↦ λ is. rest
                  | false ↦ λ other. (replaced_counts e f m (total.antisymm f.0 e.0 ∙ ap ordering_reverse alike) other, rest)
                ] refl
            | Greater ↦ λ past. (put_counts e f m (total.antisymm f.0 e.0 ∙ ap ordering_reverse past) em.0, counts_against e m em h n hn.1)
          ] refl

      pub counts : (m n : List (A × B)) → IsStrictlySortedBy order (keys_of m) → IsStrictlySortedBy order (keys_of n) → AllByRecursion (Counts order m) (compared order same m n)
      unfolding IsStrictlySortedBy
      counts [] n hm hn = counts_puts n
      counts (e ∷ m) n hm hn = counts_against e m hm (λ k hk. counts m k hm.1 hk) n hn

      -- so the two lists that are compared give the difference
      pub difference : ((x y : A) → order x y ≡ Equal → x ≡ y) → ((x y : B) → same x y ≡ true → x ≡ y) → (m n : List (A × B)) → IsStrictlySortedBy order (keys_of m) → IsStrictlySortedBy order (keys_of n) → IsDifference order m n (compared order same m n)
      difference exact faithful m n hm hn = record { increase = sorted_compared m n hm hn; counts = counts m n hm hn; leads = leads exact faithful m n hm hn }

-- where values are the same if an order says so
module _ {A B : Type 0} {order : A → A → Ordering} (total : IsTotalOrder order) (exact : (x y : A) → order x y ≡ Equal → x ≡ y) (value_order : B → B → Ordering) (value_total : IsTotalOrder value_order)
    (value_exact : (x y : B) → value_order x y ≡ Equal → x ≡ y) where
  abbrev alike : B → B → Bool
  alike x y = is_eq (value_order x y)

  pub difference_by_order : (m n : List (A × B)) → IsStrictlySortedBy order (keys_of m) → IsStrictlySortedBy order (keys_of n) → IsDifference order m n (compared order alike m n)
  difference_by_order =
      difference order alike total (λ x. ap is_eq (itself value_order (λ (y z : B). is_eq (value_order y z)) value_total x)) exact (λ x y is. value_exact x y ((Equal-is (value_order x y)).0 is))
