-- A leaf is no larger than an inner node.
use Rattle.std.proofs.Common.{arith}
use Rattle.rkyv_btree_format.proofs.Sizes.{room_of}
use Rattle.rkyv_btree_source.proofs.node.node_len.Goals as goal

pub returns-clause-leaf : goal.returns-clause-leaf
returns-clause-leaf g c =
    let room = room_of _ _ _ g.met.K.Portable.laws g.met.V.Portable.laws c.requires.fitting in
    let inside = c.requires.room.room in
    omega (arith, room.parts.leaf, inside, c.min.ensures, c.inner_size.ensures)
