-- Keys of a node fit where its layout does.
use Rattle.rkyv_btree_format.proofs.Sizes.{room_of}
use Rattle.rkyv_btree_unverified.proofs.search.halt_of_node.Goals as goal

pub is_searched_at_once-requires : goal.is_searched_at_once-requires
is_searched_at_once-requires g c = (room_of _ _ _ g.met.K.Portable.laws g.met.V.Portable.laws c.requires.fitting).key
