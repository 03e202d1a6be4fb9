-- An inner node's size fits.
use Rattle.std.proofs.Common.{arith, ◌≡◌, refl}
use Rattle.rkyv_btree_format.specs.Layout.{layout_of, inner_size}
use Rattle.rkyv_btree_format.proofs.Sizes.{room_of}
use Rattle.rkyv_btree_unverified.proofs.node.inner_size.Goals as goal

pub overflow_cast-result : goal.overflow_cast-result
unfolding inner_size
overflow_cast-result g c =
    let room = room_of _ _ _ g.met.K.Portable.laws g.met.V.Portable.laws c.requires in
    let same : c.round_up.result ≡ inner_size (layout_of g.K.Portable.kind g.V.Portable.kind g.M.ArchivedMap.E) = rw (c.round_up.ensures.value, c.from.ensures, c.pointer_at-last.ensures.value, c.entries_per_node.ensures, c.align.ensures.value) refl in
    omega (arith, same, room.small)
