-- Whether there is a key found.
use Rattle.rkyv_btree_unverified.proofs.Promised.{by_native, gives_whether_key}
use Rattle.rkyv_btree_unverified.proofs.set.Unverified+ArchivedBTreeSet+K+E.contains_by.Goals as goal

pub returns-in-Err : goal.returns-in-Err
returns-in-Err g c = gives_whether_key (by_native g.K.Portable.kind g.K.CompareWith.compared_at c.args.key) _ c.in-Err.ensures

pub returns-in-Ok : goal.returns-in-Ok
returns-in-Ok g c = rw c.is_some.ensures (gives_whether_key (by_native g.K.Portable.kind g.K.CompareWith.compared_at c.args.key) _ c.in-Ok.ensures)
