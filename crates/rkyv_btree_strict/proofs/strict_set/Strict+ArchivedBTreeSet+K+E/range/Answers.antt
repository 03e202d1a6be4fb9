-- The view's range, in keys that increase.
use Rattle.rkyv_btree_strict.proofs.strict_set.Strict+ArchivedBTreeSet+K+E.range.Goals as goal

pub returns-clause-within : goal.returns-clause-within
returns-clause-within g c = c.range.ensures.between.sorted c.args.self.increasing
