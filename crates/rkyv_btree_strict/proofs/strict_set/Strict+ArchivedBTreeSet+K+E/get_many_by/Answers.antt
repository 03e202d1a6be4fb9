-- The view's lookups, in keys that increase.
use Rattle.rkyv_btree_strict.proofs.strict_set.Strict+ArchivedBTreeSet+K+E.get_many_by.Goals as goal

pub returns-clause-each : goal.returns-clause-each
returns-clause-each g c key comparison agree = (c.get_many_by.ensures.each key comparison agree).sorted c.args.self.increasing
