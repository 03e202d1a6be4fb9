-- Nothing is left when the walk ends.
use Rattle.std.proofs.Common.{rules}
use Rattle.rkyv_btree_view.proofs.compare.ArchivedBTreeMapViewHash.hash_view.Goals as goal

pub returns : goal.returns
returns g c = search rules
