-- Sets are equal as their maps are.
use Rattle.std.proofs.Common.{rules}
use Rattle.rkyv_btree_view.proofs.compare.ArchivedBTreeSetViewEq.is_same.Goals as goal

pub returns : goal.returns
returns g c = search rules
