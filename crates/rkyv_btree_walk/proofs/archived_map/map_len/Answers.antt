-- A map stands with its eight bytes, and says how many entries are read.
use Rattle.std.proofs.Common.{arith, sym, ◌∙◌}
use Rattle.rkyv_btree_verify.proofs.MapLaws.{map_length, map_room, map_short}
use Rattle.rkyv_btree_walk.proofs.archived_map.map_len.Goals as goal

pub overflow_add-pos : goal.overflow_add-pos
overflow_add-pos g c =
    let room = map_room _ _ _ g.met.K.Portable.laws g.met.V.Portable.laws _ _ c.opened.ensures in
    let short = map_short _ _ _ g.met.K.Portable.laws g.met.V.Portable.laws _ _ c.opened.ensures in
    omega arith

pub num32-requires : goal.num32-requires
num32-requires g c =
    let room = map_room _ _ _ g.met.K.Portable.laws g.met.V.Portable.laws _ _ c.opened.ensures in
    omega arith

pub returns : goal.returns
returns g c = c.num32.ensures ∙ sym (map_length _ _ _ g.met.K.Portable.laws g.met.V.Portable.laws _ _ c.opened.ensures)
