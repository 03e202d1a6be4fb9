-- A walk that is down takes the next entry.
use Rattle.rkyv_btree_unverified.proofs.Taken.{steps_on}
use Rattle.rkyv_btree_unverified.proofs.walk.step.Goals as goal

pub returns-in-Ok-clause-steps : goal.returns-in-Ok-clause-steps
returns-in-Ok-clause-steps g c =
    steps_on g.K.Portable.kind g.V.Portable.kind g.M.ArchivedMap.E c.args.buf.now c.args.pos g.K.CheckBytes.Refuses g.V.CheckBytes.Refuses c.args.walk.now c.go_down.new.walk c.advance-in-Ok.new.walk c.in-Descend.is c.in-Ok.ensures.comes c.advance-in-Ok.result c.advance-in-Ok.ensures.steps
