-- An inner node that stands is full, and its entries stand.
use Rattle.std.proofs.Common.{arith}
use Rattle.rkyv_btree_format.specs.Layout.{layout_of}
use Rattle.rkyv_btree_format.proofs.Sizes.{room_of}
use Rattle.rkyv_btree_walk.proofs.Searches.{node_run, inner_counted}
use Rattle.rkyv_btree_walk.proofs.seek.inner_end.Goals as goal

pub overflow_cast-result : goal.overflow_cast-result
overflow_cast-result g c =
    let room = room_of _ _ _ g.met.K.Portable.laws g.met.V.Portable.laws c.requires.fitting in
    omega (arith, room.entries)

pub returns-clause-stands : goal.returns-clause-stands
returns-clause-stands g c =
    let counted = inner_counted (layout_of g.K.Portable.kind g.V.Portable.kind g.M.ArchivedMap.E) c.args._buf.now c.args._node c.requires.inner c.entries_per_node.ensures in
    rw counted (node_run _ _ _ _ c.args._node c.requires.node)
