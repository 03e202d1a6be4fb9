-- The value that stands at a position, whatever the window.
use Rattle.std.specs.Prelude.{ℕ, ◌&&◌, Bool, List, is_some}
use Rattle.rkyv_btree_portable.specs.Kind.{Kind}

-- in the widest window, all that stands before it, the value at the position is this one
pub record MeansAt (kind : Kind) (buf : List ℕ) (pos : ℕ) (v : kind.Value) : Type 0 where
  pub left : ℕ
  pub means : kind.Means buf 0 pos pos left v

-- some value stands at the position, by the type's own decision
abbrev pub stands : Kind → List ℕ → ℕ → Bool
stands kind buf pos = kind.is_fitting && is_some (kind.leaves buf 0 pos pos)
