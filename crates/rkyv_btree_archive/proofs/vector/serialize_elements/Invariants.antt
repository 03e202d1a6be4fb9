use Rattle.std.proofs.Common.{◌≡◌, ◌≤◌, length, take, vec_capacity}
use Rattle.rkyv_btree_archive.specs.mirror.Rows.{ElementsWritten}
use Rattle.rkyv_btree_archive.proofs.vector.serialize_elements.Given as goal

-- those before this one are written
abbrev pub invariant-loop-element : goal.invariant-loop-element
invariant-loop-element g l = record {
  done : ElementsWritten g.T.Archive.archival (g.W.Writer.state l.fn.writer) (take l.element-index l.elements) l.resolvers.items (g.W.Writer.state l.writer);
  count : length l.resolvers.items ≡ l.element-index;
  room : vec_capacity l.fn.resolvers ≤ vec_capacity l.resolvers;
}
