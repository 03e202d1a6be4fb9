-- Maps as they are opened.
use Rattle.std.specs.Prelude.{ℕ, List}
use Rattle.rkyv_btree_portable.specs.Kind.{Kind}
use Rattle.rkyv_btree_format.specs.Spells.{Accepted}

-- in the window of all that stands before it, the bytes at a position are a map of these entries
abbrev pub IsMap : (K V : Kind) → ℕ → List ℕ → ℕ → List (K.Value × V.Value) → Type 0
IsMap K V E b pos m = (left : ℕ) × Accepted K V E b 0 pos pos left m
