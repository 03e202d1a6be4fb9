-- The way up, past nodes with no entry left.
use Rattle.std.proofs.Common.{length}
use Rattle.rkyv_btree_unverified.proofs.Taken.{IsClimbing}
use Rattle.rkyv_btree_unverified.proofs.walk.climb.Given as goal

abbrev pub invariant-up : goal.invariant-up
invariant-up g l = IsClimbing g.K.Portable.kind g.V.Portable.kind g.M.ArchivedMap.E l.buf l.pos l.fn.path.items l.path.items

abbrev pub decreases-up : goal.decreases-up
decreases-up g l = length l.path.items
