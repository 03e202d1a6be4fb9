-- A node's first byte, and its length.
use Rattle.std.proofs.Common.{◌≡◌, ◌∙◌, arith, sym}
use Rattle.rkyv_btree_format.proofs.Sizes.{room_of}
use Rattle.rkyv_btree_verify.specs.Refusals.{leaf_len}
use Rattle.rkyv_btree_source.proofs.Parts.{first_byte, part_number}
use Rattle.rkyv_btree_source.proofs.node.count_in.Goals as goal

pub bounds-bytes-0 : goal.bounds-bytes-0
bounds-bytes-0 g c =
    let room = room_of _ _ _ g.met.K.Portable.laws g.met.V.Portable.laws c.requires.fitting in
    omega (arith, room.eight, c.requires.leaf)

pub returns-clause-gives : goal.returns-clause-gives
returns-clause-gives g c b part =
    let K = g.K.Portable.kind in let V = g.V.Portable.kind in let E = g.M.ArchivedMap.E in
    let room = room_of K V E g.met.K.Portable.laws g.met.V.Portable.laws c.requires.fitting in
    let bytes = c.args.bytes.now in
    let count : c.num32.result ≡ leaf_len K V E b c.args.node = rw (← c.len_at.ensures.value) (c.num32.ensures ∙ part_number b bytes c.args.node part c.len_at.result (omega (arith, c.len_at.ensures.inside, c.requires.leaf))) in
    c.entries_of.ensures.gives b (first_byte b bytes c.args.node part (omega (arith, room.eight, c.requires.leaf))) (sym count)
