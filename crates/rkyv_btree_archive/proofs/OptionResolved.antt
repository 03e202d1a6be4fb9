-- A tag written before a value's own bytes.
use Rattle.std.specs.Prelude.{◌≡◌, ℕ, ◌+◌, ◌-◌, ◌≤◌, ◌<◌, List, [], ◌∷◌, ◌++◌, take, Some}
use Rattle.std.specs.List.{slice_set}
use Rattle.std.proofs.Common.{suc, zero, arith, ap, subst, ◌∙◌}
use Rattle.std.proofs.lemmas.List.{take-replicate}
use Rattle.rkyv_btree_archive.specs.OptionArchival.{OptionResolves}
use Rattle.rkyv_btree_portable.specs.Bytes.{zeros, filled}
use Rattle.rkyv_btree_writer.specs.Archiving.{Archival}

set_first : (n : ℕ) → 0 < n → slice_set (zeros n) 0 1 ≡ filled (1 ∷ []) n
set_first zero some = absurd (omega arith)
set_first (suc n) some =
    let less : n ≡ suc n - 1 = omega arith in
    ap (λ k. 1 ∷ zeros k) less

module _ {M R : Type 0} (T : Archival M R) (x : M) (r : R) (at : ℕ) where
  pub some_resolved : (value whole front : List ℕ) (align size : ℕ) → align ≡ T.kind.align → 0 < align → align ≤ size → whole ≡ zeros size → front ≡ take align whole → T.Resolves x r (at + align) value
      → OptionResolves T (Some x) (Some r) at (slice_set front 0 1 ++ value)
  some_resolved value whole front align size same some inside clear cut resolves =
      let cleared : front ≡ zeros align = cut ∙ (ap (take align) clear ∙ take-replicate {X = ℕ} align size 0 inside) in (
        value,
        subst (λ n. T.Resolves x r (at + n) value) same resolves,
        ap (λ z. slice_set z 0 1 ++ value) cleared ∙ (ap (λ z. z ++ value) (set_first align some) ∙ ap (λ n. filled (1 ∷ []) n ++ value) same),
      )
