-- What the only entry of a number says of the list.
use Rattle.std.proofs.Common.{◌≡◌, ℕ, List, Option, None, Some, Contains, ◌↔◌, ap, ap₂, sym, map, ◌∙◌, refl}
use Rattle.std.specs.Prelude.{IfSome, IsSome}
use Rattle.std.specs.List.Sorted.{IsStrictlySortedBy}
use Rattle.std.specs.Cmp.{nat_cmp_is, nat_cmp_total}
use Rattle.std.specs.Option.{option_map}
use Rattle.std.specs.Ordering.{nat_cmp}
use Rattle.std.specs.declared.cmp.Ordering.TheVariants.{Equal}
use Rattle.std.proofs.lemmas.List.{get_or_default}
use Rattle.std.proofs.lemmas.Map.Lookups.{exact_unsigned}
use Rattle.rkyv_btree.specs.Search.{AnyHit, IsHit, OrderedBy}
use Rattle.rkyv_btree.specs.laws.Cuts.{order_cuts}
use Rattle.rkyv_btree.specs.laws.Increasing.{increasing_ordered, only_one}

module _ (entries : List (ℕ × ℕ)) (key : ℕ) where
  hit : (value : ℕ) → Contains entries (key, value) → IsHit (λ e. nat_cmp key e.0) entries (key, value)
  hit value (i, less, is) = (sym (nat_cmp_is key key Equal refl), i, less, λ d. get_or_default entries i d (key, value) less ∙ is)

  listed : (entry : ℕ × ℕ) (value : ℕ) → IsHit (λ e. nat_cmp key e.0) entries entry → entry.1 ≡ value → Contains entries (key, value)
  listed entry value (same, i, less, is) value_is = (i, less, is (key, value) ∙ ap₂ (λ k v. (k, v)) (sym (exact_unsigned key entry.0 same)) value_is)

  -- among keys that increase, an entry that a lookup finds is the only one with its key, and one that is there is found
  pub value_found : (entry : Option (ℕ × ℕ)) → IfSome entry (IsHit (λ e. nat_cmp key e.0) entries) → (OrderedBy (λ e. nat_cmp key e.0) entries → (IsSome entry ↔ AnyHit (λ e. nat_cmp key e.0) entries))
      → IsStrictlySortedBy nat_cmp (map (λ e. e.0) entries) → (value : ℕ) → (option_map (λ e. e.1) entry ≡ Some value) ↔ Contains entries (key, value)
  value_found None is complete increasing value = (λ e. absurd (cc e), λ h. absurd (none_there (hit value h)))
    where
      none_there : IsHit (λ e. nat_cmp key e.0) entries (key, value) → ⊥
      none_there h =
          let any : AnyHit (λ e. nat_cmp key e.0) entries = (h.1, h.2, λ d. rw (h.3 d) h.0) in
          let there = (complete (increasing_ordered nat_cmp (λ e. e.0) (nat_cmp key) (order_cuts nat_cmp_total key) entries increasing)).1 any in
          cc there
  value_found (Some x) is complete increasing value =
      (λ e. listed x value is (cc e), λ h. ap (λ e. Some e.1) (only_one nat_cmp (λ e. e.0) (nat_cmp key) (order_cuts nat_cmp_total key) entries increasing x (key, value) is (hit value h)))
