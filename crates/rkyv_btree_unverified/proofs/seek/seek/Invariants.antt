-- The way down: what was skipped fails the test, and what is left of the path passes it.
use Rattle.rkyv_btree_unverified.proofs.Sought.{IsSeeking}
use Rattle.rkyv_btree_unverified.specs.mirror.Sought.{reached_place}
use Rattle.rkyv_btree_unverified.proofs.seek.seek.Given as goal

abbrev pub invariant-down : goal.invariant-down
invariant-down g l =
    let K = g.K.Portable.kind in let V = g.V.Portable.kind in let E = g.M.ArchivedMap.E in
    IsSeeking K V E l.buf l.pos (reached_place K V E g.K.CompareWith.compared_at l.buf l.key l.past) l.fn.nodes l.path.items l.nodes l.at l.end

abbrev pub decreases-down : goal.decreases-down
decreases-down g l = l.at
