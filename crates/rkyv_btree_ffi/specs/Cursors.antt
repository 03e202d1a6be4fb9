-- What the numbers of a cursor are: the nodes of a walk, its entries in a leaf, and its stop.
use Rattle.std.specs.Prelude.{◌≡◌, ℕ, List, map, Option, Some, None, nat_eq, if◌then◌else◌, take}
use Rattle.rkyv_btree_ffi.specs.declared.cursor.BtreeCursor.{BtreeCursor}
use Rattle.rkyv_btree_ffi.specs.declared.cursor.BtreeStep.{BtreeStep}
use Rattle.rkyv_btree_walk.specs.declared.range_walk.RangeWalk.{RangeWalk}

abbrev pub step_of : BtreeStep → ℕ × ℕ
step_of s = (s.node, s.index)

-- the nodes on the path
abbrev pub path_of : BtreeCursor → List (ℕ × ℕ)
path_of c = map step_of (take c.depth c.path)

-- the entry before which the walk stops
abbrev pub stop_of : BtreeCursor → Option (ℕ × ℕ)
stop_of c = if nat_eq c.stops 0 then None else Some (step_of c.stop)

-- a cursor keeps a walk
pub record IsKept (w : RangeWalk) (c : BtreeCursor) : Type 0 where
  pub node : w.part.node ≡ c.node
  pub next : w.part.next ≡ c.next
  pub end : w.part.end ≡ c.end
  pub path : w.path.items ≡ path_of c
  pub stop : w.stop ≡ stop_of c
