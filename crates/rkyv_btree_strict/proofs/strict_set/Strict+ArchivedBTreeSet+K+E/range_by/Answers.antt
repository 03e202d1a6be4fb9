-- The view's range, in keys that increase.
use Rattle.rkyv_btree_strict.proofs.strict_set.Strict+ArchivedBTreeSet+K+E.range_by.Goals as goal

pub returns-clause-within : goal.returns-clause-within
returns-clause-within g c comparison agree = (c.range_by.ensures.between comparison agree).sorted c.args.self.increasing
