-- Own bytes that stand in a buffer.
use Rattle.std.specs.Prelude.{ℕ, ◌+◌, ◌≤◌, IsTrue, List, length}
use Rattle.rkyv_btree_portable.specs.Bytes.{bytes_at}
use Rattle.rkyv_btree_portable.specs.InPlace.{IsOwn}
use Rattle.rkyv_btree_portable.specs.Kind.{Kind}

-- own bytes from a position on lie in the buffer, and mean a value by themselves
pub record StandsAlone (kind : Kind) (b : List ℕ) (pos : ℕ) : Type 0 where
  pub fitting : IsTrue kind.is_fitting
  pub inside : pos + kind.size ≤ length b
  pub is_own : IsOwn kind (bytes_at b pos kind.size)
