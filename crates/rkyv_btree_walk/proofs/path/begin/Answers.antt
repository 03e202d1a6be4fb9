-- A map that stands has a root where it has entries.
use Rattle.std.proofs.Common.{◌∙◌, arith}
use Rattle.std.proofs.lemmas.List.{append-nil}
use Rattle.rkyv_btree_verify.proofs.MapLaws.{map_room, map_short}
use Rattle.rkyv_btree_walk.specs.Below.{root_place}
use Rattle.rkyv_btree_walk.proofs.Below.{root_placed}
use Rattle.rkyv_btree_walk.proofs.Roots.{root_leads, root_stands, root_list}
use Rattle.rkyv_btree_walk.proofs.path.begin.Goals as goal

pub root-requires-clause-inside : goal.root-requires-clause-inside
root-requires-clause-inside g c =
    let room = map_room _ _ _ g.met.K.Portable.laws g.met.V.Portable.laws _ _ c.opened.ensures in
    omega arith

pub root-requires-clause-leads : goal.root-requires-clause-leads
root-requires-clause-leads g c =
    root_leads _ _ _ g.met.K.Portable.laws g.met.V.Portable.laws _ _ c.opened.ensures (rw c.map_len.ensures at c.if-map_len-gt0.true)

pub descend-requires-clause-short : goal.descend-requires-clause-short
descend-requires-clause-short g c =
    map_short _ _ _ g.met.K.Portable.laws g.met.V.Portable.laws _ _ c.opened.ensures

pub descend-requires-clause-tree : goal.descend-requires-clause-tree
descend-requires-clause-tree g c =
    rw c.requires.empty (root_stands _ _ _ g.met.K.Portable.laws g.met.V.Portable.laws _ _ c.opened.ensures (rw c.map_len.ensures at c.if-map_len-gt0.true) c.root.result c.root.ensures)

pub returns-then-map_len-gt0-clause-rest : goal.returns-then-map_len-gt0-clause-rest
returns-then-map_len-gt0-clause-rest g c =
    let all = root_list _ _ _ g.met.K.Portable.laws g.met.V.Portable.laws _ _ c.opened.ensures (rw c.map_len.ensures at c.if-map_len-gt0.true) c.root.result c.root.ensures in
    rw (c.requires.empty, append-nil) at c.descend.ensures.rest ∙ all

pub returns-then-map_len-gt0-clause-below : goal.returns-then-map_len-gt0-clause-below
returns-then-map_len-gt0-clause-below g c =
    let placed = root_placed _ _ _ g.met.K.Portable.laws g.met.V.Portable.laws _ _ c.opened.ensures (rw c.map_len.ensures at c.if-map_len-gt0.true) c.root.result c.root.ensures in
    c.descend.ensures.below (root_place c.args.buf.now c.args.pos) (rw c.requires.empty tt) (rw c.requires.empty placed)
