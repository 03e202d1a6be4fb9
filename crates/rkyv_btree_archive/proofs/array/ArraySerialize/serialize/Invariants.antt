-- Those before this one are serialised, and what this told is in their slots.
use Rattle.std.proofs.Common.{◌≡◌, length}
use Rattle.rkyv_btree_archive.proofs.ArraysWritten.{SerialisedSoFar}
use Rattle.rkyv_btree_archive.proofs.array.ArraySerialize.serialize.Given as goal

abbrev pub invariant-loop-i : goal.invariant-loop-i
invariant-loop-i g l = record {
  so_far : SerialisedSoFar g.T.Archive.archival (g.W.Writer.state l.fn.writer) l.self l.i l.resolvers (g.W.Writer.state l.writer);
  slots : length l.resolvers ≡ g.row.N;
}
