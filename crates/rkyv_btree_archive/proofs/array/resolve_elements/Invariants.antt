-- Those before this one are resolved, and the resolvers from this one on are left.
use Rattle.std.proofs.Common.{◌≡◌, ◌≤◌, ℕ, Option, get_or, length}
use Rattle.rkyv_btree_archive.proofs.ArraysWritten.{PartsSoFar}
use Rattle.rkyv_btree_archive.proofs.array.resolve_elements.Given as goal

abbrev pub invariant-loop-i : goal.invariant-loop-i
invariant-loop-i g l = record {
  done : PartsSoFar g.T.Archive.archival l.elements l.fn.resolvers l.pos l.i g.T.Archived.Portable.kind.size l.fn.bytes l.bytes;
  left : (k : ℕ) (d : Option g.row.T-Resolver.Denot) → l.i ≤ k → get_or l.resolvers k d ≡ get_or l.fn.resolvers k d;
}
