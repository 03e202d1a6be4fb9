-- The way down: no entry is lost of what is left, and each child stands before its node.
use Rattle.rkyv_btree_unverified.proofs.Entered.{IsDescending}
use Rattle.rkyv_btree_unverified.proofs.walk.descend.Given as goal

abbrev pub invariant-down : goal.invariant-down
invariant-down g l = IsDescending g.K.Portable.kind g.V.Portable.kind g.M.ArchivedMap.E l.buf l.pos l.fn.path.items l.fn.nodes l.path.items l.nodes l.at l.end

abbrev pub decreases-down : goal.decreases-down
decreases-down g l = l.at
