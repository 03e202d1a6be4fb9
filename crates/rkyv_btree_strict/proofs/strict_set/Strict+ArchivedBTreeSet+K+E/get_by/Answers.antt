-- The view's lookup, in keys that increase.
use Rattle.rkyv_btree_strict.proofs.strict_set.Strict+ArchivedBTreeSet+K+E.get_by.Goals as goal

pub returns : goal.returns
returns g c comparison agree = (c.get_by.ensures comparison agree).sorted c.args.self.increasing
