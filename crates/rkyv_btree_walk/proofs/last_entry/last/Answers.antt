-- A map that stands has a root where it has entries.
use Rattle.std.proofs.Common.{ap, arith, ◌≡◌, ◌∙◌, length, None}
use Rattle.std.specs.List.{last_or}
use Rattle.rkyv_btree_verify.proofs.MapLaws.{map_room}
use Rattle.rkyv_btree_walk.proofs.Roots.{root_leads, root_readable, root_list}
use Rattle.rkyv_btree_walk.proofs.last_entry.last.Goals as goal

pub root-requires-clause-inside : goal.root-requires-clause-inside
root-requires-clause-inside g c =
    let room = map_room _ _ _ g.met.K.Portable.laws g.met.V.Portable.laws _ _ c.opened.ensures in
    omega arith

pub root-requires-clause-leads : goal.root-requires-clause-leads
root-requires-clause-leads g c =
    root_leads _ _ _ g.met.K.Portable.laws g.met.V.Portable.laws _ _ c.opened.ensures (rw c.map_len.ensures at c.if-map_len-gt0.true)

pub last_of_tree-requires : goal.last_of_tree-requires
last_of_tree-requires g c =
    root_readable _ _ _ g.met.K.Portable.laws g.met.V.Portable.laws _ _ c.opened.ensures (rw c.map_len.ensures at c.if-map_len-gt0.true) c.root.result c.root.ensures

pub returns-then-map_len-gt0-clause-last : goal.returns-then-map_len-gt0-clause-last
returns-then-map_len-gt0-clause-last g c =
    c.last_of_tree.ensures.last
    ∙ ap (last_or None) (root_list _ _ _ g.met.K.Portable.laws g.met.V.Portable.laws _ _ c.opened.ensures (rw c.map_len.ensures at c.if-map_len-gt0.true) c.root.result c.root.ensures)
