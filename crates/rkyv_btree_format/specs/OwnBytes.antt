-- Whole archives as a reader takes them: the bytes of one value from position 0 on, its own at their end.
use Rattle.std.specs.Prelude.{ℕ, ◌-◌, ◌≤◌, List, length}
use Rattle.rkyv_btree_portable.specs.Kind.{Kind}

-- where the own bytes stand
abbrev pub own_at : Kind → List ℕ → ℕ
own_at kind bytes = length bytes - kind.size

-- the bytes are an archive of a value
pub record IsArchiveOf (kind : Kind) (bytes : List ℕ) (v : kind.Value) : Type 0 where
  pub room : kind.size ≤ length bytes
  pub left : ℕ
  pub means : kind.Means bytes 0 (own_at kind bytes) (own_at kind bytes) left v
