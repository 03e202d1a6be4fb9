-- The first key among all is the first, where none after one that passes fails.
use Rattle.rkyv_btree_format.proofs.Sizes.{fitting_parts}
use Rattle.rkyv_btree_walk.proofs.seek.seek_node.Goals as goal

pub is_one_number-requires : goal.is_one_number-requires
is_one_number-requires g c = (fitting_parts _ _ _ c.requires.run.fitting).key

pub returns-clause-first : goal.returns-clause-first
returns-clause-first g c f p climbs = c.scan_node.ensures.first f p
