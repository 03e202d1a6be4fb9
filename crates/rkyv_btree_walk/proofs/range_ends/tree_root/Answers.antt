-- A map that stands has a root where it has entries.
use Rattle.std.proofs.Common.{arith}
use Rattle.rkyv_btree_verify.proofs.MapLaws.{map_room}
use Rattle.rkyv_btree_walk.proofs.Roots.{root_leads, root_readable}
use Rattle.rkyv_btree_walk.proofs.range_ends.tree_root.Goals as goal

pub root-requires-clause-inside : goal.root-requires-clause-inside
root-requires-clause-inside g c =
    let room = map_room _ _ _ g.met.K.Portable.laws g.met.V.Portable.laws _ _ c.requires.stands in
    omega arith

pub root-requires-clause-leads : goal.root-requires-clause-leads
root-requires-clause-leads g c = root_leads _ _ _ g.met.K.Portable.laws g.met.V.Portable.laws _ _ c.requires.stands c.requires.some

pub returns-clause-tree : goal.returns-clause-tree
returns-clause-tree g c = root_readable _ _ _ g.met.K.Portable.laws g.met.V.Portable.laws _ _ c.requires.stands c.requires.some c.root.result c.root.ensures
