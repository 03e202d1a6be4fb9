-- A node has a byte.
use Rattle.std.proofs.Common.{arith}
use Rattle.rkyv_btree_format.proofs.Sizes.{room_of}
use Rattle.rkyv_btree_walk.proofs.node.is_leaf.Goals as goal

pub bounds-buf-node : goal.bounds-buf-node
bounds-buf-node g c =
    let room = room_of _ _ _ g.met.K.Portable.laws g.met.V.Portable.laws c.requires.fitting in
    let inside = c.requires.node.leaf_inside in
    omega (arith, room.eight)
