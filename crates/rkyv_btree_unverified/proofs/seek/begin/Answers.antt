-- Without a bound all entries are left; else the first is sought that reaches it.
use Rattle.rkyv_btree_unverified.proofs.Sought.{begins_whole, begins_at}
use Rattle.rkyv_btree_unverified.proofs.seek.begin.Goals as goal

pub returns-in-Unbounded : goal.returns-in-Unbounded
returns-in-Unbounded g c = record {
  gives = begins_whole g.K.Portable.kind g.V.Portable.kind g.M.ArchivedMap.E g.K.CompareWith.compared_at c.args.buf.now g.K.CheckBytes.Refuses g.V.CheckBytes.Refuses c.args.pos c.args.low c.args.walk.now c.in-Unbounded.is c.requires.empty c.requires.phase c.requires.taken c.requires.few;
}

pub returns-in-Included : goal.returns-in-Included
returns-in-Included g c = record {
  gives = begins_at g.K.Portable.kind g.V.Portable.kind g.M.ArchivedMap.E g.K.CompareWith.compared_at c.args.buf.now g.K.CheckBytes.Refuses g.V.CheckBytes.Refuses c.args.pos c.args.low _ _ _ _ c.in-Included.is c.begin_at.ensures.gives;
}

pub returns-in-Excluded : goal.returns-in-Excluded
returns-in-Excluded g c = record {
  gives = begins_at g.K.Portable.kind g.V.Portable.kind g.M.ArchivedMap.E g.K.CompareWith.compared_at c.args.buf.now g.K.CheckBytes.Refuses g.V.CheckBytes.Refuses c.args.pos c.args.low _ _ _ _ c.in-Excluded.is c.begin_at-in-Excluded.ensures.gives;
}
