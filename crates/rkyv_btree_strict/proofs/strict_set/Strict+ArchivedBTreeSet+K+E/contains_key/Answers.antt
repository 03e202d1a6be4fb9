-- The view's lookup, in keys that increase.
use Rattle.rkyv_btree_strict.proofs.strict_set.Strict+ArchivedBTreeSet+K+E.contains_key.Goals as goal

pub returns : goal.returns
returns g c = c.contains_key.ensures.sorted c.args.self.increasing
