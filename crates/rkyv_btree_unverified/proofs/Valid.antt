-- An entry that a lookup returns is valid, and equal.
use Rattle.std.proofs.Common.{◌≡◌, ℕ, zero, suc, IsTrue, List, Option, Some, None, Result, Ok, Err, sym, subst}
use Rattle.std.specs.declared.cmp.Ordering.{Ordering}
use Rattle.std.specs.declared.cmp.Ordering.TheVariants.{Equal}
use Rattle.rkyv_btree_portable.specs.Kind.{Kind}
use Rattle.rkyv_btree_portable.specs.declared.refusal.Refusal.{Refusal}
use Rattle.rkyv_btree_portable.specs.Views.{stands}
use Rattle.rkyv_btree_unverified.specs.Lookups.{AtChild, AtHalt, TreeGives, LookupGives}
use Rattle.rkyv_btree_unverified.specs.Steps.{value_place, GoesOn, KeysGive, equal_key, Then, Gives}
use Rattle.rkyv_btree_unverified.specs.declared.search.Halt.{Halt}
use Rattle.rkyv_btree_unverified.specs.declared.search.Halt.TheVariants.{Found, Below}

module _ (K V : Kind) (E : ℕ) (b : List ℕ) (comparison : K.Value → Ordering) (KR VR : List ℕ → ℕ → ℕ → ℕ → Refusal → Type 0) (e : ℕ × ℕ) where
  abbrev R : Type 0
  R = Result (Option (ℕ × ℕ)) Refusal

  abbrev IsValid : Type 0
  IsValid = Gives K V E b comparison Equal e × IsTrue (stands V b (value_place K V E e))

  here : (p n i : ℕ) → KeysGive K V E b comparison KR VR p n (Ok (Found i)) → ◌≡◌ {A = R} (Ok (Some e)) (Ok (Some (p, i))) → IsValid
  here p n i (equal_key asks equal valid) is =
      let same : e ≡ (p, i) = cc is in
      (subst (λ (x : ℕ × ℕ). Gives K V E b comparison Equal x) (sym same) equal, subst (λ (x : ℕ × ℕ). IsTrue (stands V b (value_place K V E x))) (sym same) valid)

  -- where what goes on with a child is valid, so is this
  module _ (tree : ℕ → R → Type 0) (below : (q : ℕ) → tree q (Ok (Some e)) → IsValid) where
    of_child : (c : Option ℕ) → AtChild K V E b comparison KR VR tree c (Ok (Some e)) → IsValid
    of_child None is = absurd (cc is)
    of_child (Some q) is = below q is

    after_child : (c : Result (Option ℕ) Refusal) → GoesOn (AtChild K V E b comparison KR VR tree) c (Ok (Some e)) → IsValid
    after_child (Ok c) on = of_child c on
    after_child (Err d) on = absurd (cc on)

    of_halt : (hi p n : ℕ) (halt : Halt) → KeysGive K V E b comparison KR VR p n (Ok halt) → AtHalt K V E b comparison KR VR tree hi p halt (Ok (Some e)) → IsValid
    of_halt hi p n (Found i) gives is = here p n i gives is
    of_halt hi p n (Below i) gives on = after_child on.result on.goes_on

    after_keys : (hi p n : ℕ) (halt : Result Halt Refusal) → KeysGive K V E b comparison KR VR p n halt → GoesOn (AtHalt K V E b comparison KR VR tree hi p) halt (Ok (Some e)) → IsValid
    after_keys hi p n (Ok halt) gives on = of_halt hi p n halt gives on
    after_keys hi p n (Err d) gives on = absurd (cc on)

    after_node : (hi p : ℕ) (n : Result ℕ Refusal) → GoesOn (λ k. Then (KeysGive K V E b comparison KR VR p k) (AtHalt K V E b comparison KR VR tree hi p)) n (Ok (Some e)) → IsValid
    after_node hi p (Ok n) on = after_keys hi p n on.result on.gives on.goes_on
    after_node hi p (Err d) on = absurd (cc on)

  tree_valid : (levels hi p : ℕ) → TreeGives K V E b comparison KR VR levels hi p (Ok (Some e)) → IsValid
  unfolding TreeGives
  tree_valid zero hi p is = absurd (cc is)
  tree_valid (suc levels) hi p t = after_node (TreeGives K V E b comparison KR VR levels p) (λ q h. tree_valid levels p q h) hi p t.result t.goes_on

  pub lookup_valid : (at : ℕ) → LookupGives K V E b comparison KR VR at (Ok (Some e)) → IsValid
  lookup_valid at h = after_child (TreeGives K V E b comparison KR VR 32 at) (λ q t. tree_valid 32 at q t) h.result h.goes_on
