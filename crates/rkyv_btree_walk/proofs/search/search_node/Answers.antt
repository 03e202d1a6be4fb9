-- Both ways stop at the same entry.
use Rattle.rkyv_btree_format.proofs.Sizes.{fitting_parts}
use Rattle.rkyv_btree_walk.proofs.search.search_node.Goals as goal

pub is_searched_at_once-requires : goal.is_searched_at_once-requires
is_searched_at_once-requires g c = (fitting_parts _ _ _ c.requires.node.fitting).key
