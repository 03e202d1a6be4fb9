-- Comparisons of archived arrays with native ones.
use Rattle.std.specs.Prelude.{ℕ, zero, suc, ◌+◌, Bool, List, [], ◌∷◌}
use Rattle.std.specs.Cmp.Lexicographic.{pointwise, slice_cmp}
use Rattle.std.specs.declared.cmp.Ordering.{Ordering}
use Rattle.rkyv_btree_portable.specs.Kind.{Kind}

-- where so many elements of a size are, from a position on
abbrev pub element_places : ℕ → ℕ → ℕ → List ℕ
element_places size zero at = []
element_places size (suc n) at = at ∷ element_places size n (at + size)

module _ {M : Type 0} (T : Kind) (N : ℕ) where
  -- how a native array compares to the array at a position, and whether it is the same
  abbrev pub array_compared_at : (M → List ℕ → ℕ → Ordering) → List M → List ℕ → ℕ → Ordering
  array_compared_at compared_at natives b at = slice_cmp (λ native place. compared_at native b place) natives (element_places T.size N at)

  abbrev pub array_same_at : (M → List ℕ → ℕ → Bool) → List M → List ℕ → ℕ → Bool
  array_same_at same_at natives b at = pointwise (λ place native. same_at native b place) (element_places T.size N at) natives
