-- A set is hashed as its map is.
use Rattle.std.proofs.Common.{rules}
use Rattle.rkyv_btree_view.proofs.compare.ArchivedBTreeSetViewHash.hash_view.Goals as goal

pub returns : goal.returns
returns g c = search rules
