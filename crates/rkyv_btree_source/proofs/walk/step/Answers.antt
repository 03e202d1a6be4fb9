-- A walk that is down takes the next entry.
use Rattle.std.proofs.Common.{refl, sym}
use Rattle.rkyv_btree_source.proofs.Knowing.{of_same}
use Rattle.rkyv_btree_source.proofs.Stepping.{down_counted, down_path, step_on, waits_down}
use Rattle.rkyv_btree_source.proofs.Walks.{unread_on}
use Rattle.rkyv_btree_source.proofs.walk.step.Goals as goal

pub go_down-requires-clause-way : goal.go_down-requires-clause-way
go_down-requires-clause-way g c b e =
    let path = down_path g.K.Portable.kind g.V.Portable.kind g.M.ArchivedMap.E b c.args.pos c.args.walk.now c.in-Descend.is (c.requires.walks b e).walks in
    (path.way, path.few)

pub advance-requires-in-Ok-clause-has : goal.advance-requires-in-Ok-clause-has
advance-requires-in-Ok-clause-has g c b e =
    let same = of_same b (sym c.in-Ok.ensures.same) e in
    down_counted g.K.Portable.kind g.V.Portable.kind g.M.ArchivedMap.E b c.args.pos c.args.walk.now _ c.in-Ok.leaf (c.in-Ok.ensures.gives b same) refl refl refl c.in-Ok.ensures.others.3 refl c.in-Descend.is (c.requires.walks b same)

pub returns-in-Ok-clause-gives : goal.returns-in-Ok-clause-gives
returns-in-Ok-clause-gives g c b e =
    step_on g.K.Portable.kind g.V.Portable.kind g.M.ArchivedMap.E b c.args.pos c.args.walk.now _ c.in-Ok.leaf (c.in-Ok.ensures.gives b e) refl refl refl c.in-Ok.ensures.others.3 refl c.in-Descend.is g.K.CheckBytes.Refuses g.V.CheckBytes.Refuses
    c.advance-in-Ok.new.walk c.advance-in-Ok.new.room c.advance-in-Ok.result (c.advance-in-Ok.ensures.gives b (of_same b c.in-Ok.ensures.same e))

pub returns-in-Err-clause-gives : goal.returns-in-Err-clause-gives
returns-in-Err-clause-gives g c b e =
    let gives = c.in-Err.ensures.gives b e in
    let waits = c.in-Err.ensures.waits b e in
    let others = c.in-Err.ensures.others in
    (gives, unread_on _ _ (λ w. waits_down g.K.Portable.kind g.V.Portable.kind g.M.ArchivedMap.E b c.args.pos c.args.walk.now c.go_down.new.walk w c.in-Descend.is others.4 others.3) c.in-Err.fault waits)

pub returns-in-Err-clause-caused : goal.returns-in-Err-clause-caused
returns-in-Err-clause-caused g c = c.in-Err.ensures.caused _
