-- Without a bound all entries are left; else the first is sought that reaches it.
use Rattle.rkyv_btree_source.proofs.Stepping.{begins_by}
use Rattle.rkyv_btree_unverified.proofs.Sought.{begins_whole}
use Rattle.rkyv_btree_source.proofs.seek.begin.Goals as goal

pub returns-in-Unbounded-clause-gives : goal.returns-in-Unbounded-clause-gives
returns-in-Unbounded-clause-gives g c b e =
    begins_whole g.K.Portable.kind g.V.Portable.kind g.M.ArchivedMap.E g.K.CompareWith.compared_at b g.K.CheckBytes.Refuses g.V.CheckBytes.Refuses c.args.pos c.args.low c.args.walk.now c.in-Unbounded.is c.requires.empty c.requires.phase c.requires.taken (c.requires.few b e)

pub returns-in-Included-clause-gives : goal.returns-in-Included-clause-gives
returns-in-Included-clause-gives g c b e =
    begins_by g.K.Portable.kind g.V.Portable.kind g.M.ArchivedMap.E g.K.CompareWith.compared_at b g.K.CheckBytes.Refuses g.V.CheckBytes.Refuses c.args.pos c.args.low _ _ _ _ c.in-Included.is (c.begin_at.ensures.gives b e)

pub returns-in-Excluded-clause-gives : goal.returns-in-Excluded-clause-gives
returns-in-Excluded-clause-gives g c b e =
    begins_by g.K.Portable.kind g.V.Portable.kind g.M.ArchivedMap.E g.K.CompareWith.compared_at b g.K.CheckBytes.Refuses g.V.CheckBytes.Refuses c.args.pos c.args.low _ _ _ _ c.in-Excluded.is (c.begin_at-in-Excluded.ensures.gives b e)
