-- A leaf's size fits.
use Rattle.std.proofs.Common.{arith, ◌≡◌, refl}
use Rattle.rkyv_btree_format.specs.Layout.{layout_of, leaf_size}
use Rattle.rkyv_btree_format.proofs.Sizes.{room_of}
use Rattle.rkyv_btree_unverified.proofs.node.leaf_size.Goals as goal

pub overflow_cast-result : goal.overflow_cast-result
unfolding leaf_size
overflow_cast-result g c =
    let room = room_of _ _ _ g.met.K.Portable.laws g.met.V.Portable.laws c.requires in
    let same : c.round_up.result ≡ leaf_size (layout_of g.K.Portable.kind g.V.Portable.kind g.M.ArchivedMap.E) = rw (c.round_up.ensures.value, c.from.ensures, c.len_at.ensures.value, c.align.ensures.value) refl in
    omega (arith, same, room.small, room.parts.leaf)
