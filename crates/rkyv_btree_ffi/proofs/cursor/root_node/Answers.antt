-- A map has eight bytes, and its root is where the first four lead.
use Rattle.std.proofs.Common.{arith}
use Rattle.rkyv_btree_verify.proofs.MapLaws.{map_room, map_short, map_length}
use Rattle.rkyv_btree_walk.proofs.Roots.{root_leads}
use Rattle.rkyv_btree_ffi.proofs.cursor.root_node.Goals as goal

pub overflow_add-pos : goal.overflow_add-pos
overflow_add-pos g c =
    let room = map_room _ _ _ g.met.K.Portable.laws g.met.V.Portable.laws _ _ c.requires in
    let short = map_short _ _ _ g.met.K.Portable.laws g.met.V.Portable.laws _ _ c.requires in
    omega arith

pub num32-requires : goal.num32-requires
num32-requires g c =
    let room = map_room _ _ _ g.met.K.Portable.laws g.met.V.Portable.laws _ _ c.requires in
    omega arith

pub root_at-requires-clause-inside : goal.root_at-requires-clause-inside
root_at-requires-clause-inside g c =
    let room = map_room _ _ _ g.met.K.Portable.laws g.met.V.Portable.laws _ _ c.requires in
    omega arith

pub root_at-requires-clause-leads : goal.root_at-requires-clause-leads
root_at-requires-clause-leads g c =
    let counted = map_length _ _ _ g.met.K.Portable.laws g.met.V.Portable.laws _ _ c.requires in
    root_leads _ _ _ g.met.K.Portable.laws g.met.V.Portable.laws _ _ c.requires (omega (arith, counted, c.num32.ensures))
