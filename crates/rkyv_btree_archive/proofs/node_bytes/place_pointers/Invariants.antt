use Rattle.std.proofs.Common.{◌≡◌, ◌+◌, ◌*◌, take, true}
use Rattle.std.specs.List.{splice}
use Rattle.rkyv_btree_writing_laws.specs.Image.{pointers, pointers_reach}
use Rattle.rkyv_btree_archive.proofs.node_bytes.place_pointers.Given as goal

abbrev pub invariant-loop-i : goal.invariant-loop-i
invariant-loop-i l = record {
  items : l.node ≡ splice l.fn.node l.start (l.start + 4 * l.i) (pointers l.pos (take l.i l.children));
  reach : pointers_reach l.pos (take l.i l.children) ≡ true;
}
