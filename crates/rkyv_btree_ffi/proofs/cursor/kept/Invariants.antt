use Rattle.std.proofs.Common.{◌≡◌, map, take, length}
use Rattle.rkyv_btree_ffi.specs.Cursors.{step_of}
use Rattle.rkyv_btree_ffi.proofs.cursor.kept.Given as goal

-- so many nodes of the path are kept
abbrev pub invariant-nodes : goal.invariant-nodes
invariant-nodes l = record {
  kept : map step_of (take l.level l.path) ≡ take l.level l.walk.path.items;
  room : length l.path ≡ 32;
}
