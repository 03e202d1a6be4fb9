-- Vectors beside native ones: they are the same where they are as many, and the same one by one.
use Rattle.std.specs.Prelude.{ℕ, zero, suc, ◌+◌, Bool, List, [], ◌∷◌}
use Rattle.std.specs.Cmp.Lexicographic.{pointwise}
use Rattle.std.specs.Int.RustNames.{unsigned_abs}
use Rattle.rkyv_btree_portable.specs.Bytes.{place_at}
use Rattle.rkyv_btree_portable.specs.Kind.{Kind}
use Rattle.rkyv_btree_portable.specs.Text.{text_len}

-- the positions of so many values of a size, one after another
abbrev pub places : ℕ → ℕ → ℕ → List ℕ
places size zero at = []
places size (suc n) at = at ∷ places size n (at + size)

abbrev pub vector_same_at : {N : Type 0} (T : Kind) → (N → List ℕ → ℕ → Bool) → List N → List ℕ → ℕ → Bool
vector_same_at T same_at natives b at = pointwise (λ p n. same_at n b p) (places T.size (text_len b at) (unsigned_abs (place_at b at))) natives
