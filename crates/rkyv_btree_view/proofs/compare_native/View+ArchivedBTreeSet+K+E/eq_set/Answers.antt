-- Sets of one length are compared by the walk.
use Rattle.std.proofs.Common.{rules}
use Rattle.rkyv_btree_view.proofs.compare_native.View+ArchivedBTreeSet+K+E.eq_set.Goals as goal

pub returns-then-len-clause-same : goal.returns-then-len-clause-same
returns-then-len-clause-same g c = search rules
