-- A leaf has its length within the node.
use Rattle.std.proofs.Common.{arith}
use Rattle.rkyv_btree_ffi.proofs.Cursors.{node_below, node_inside}
use Rattle.rkyv_btree_ffi.proofs.cursor.leaf_count.Goals as goal

pub bounds-buf-node : goal.bounds-buf-node
bounds-buf-node g c = (node_inside _ _ g.met.K.Portable.laws g.met.V.Portable.laws _ _ c.requires.stands c.requires.below.0 c.args.node c.requires.below.1).0

pub overflow_add-node : goal.overflow_add-node
overflow_add-node g c =
    let node = node_below _ _ g.met.K.Portable.laws g.met.V.Portable.laws _ _ c.requires.stands c.requires.below.0 c.args.node c.requires.below.1 in
    let short = node_inside _ _ g.met.K.Portable.laws g.met.V.Portable.laws _ _ c.requires.stands c.requires.below.0 c.args.node c.requires.below.1 in
    omega (arith, node.leaf_inside, short.1, c.len_at.ensures.inside)

pub num32-requires : goal.num32-requires
num32-requires g c =
    let node = node_below _ _ g.met.K.Portable.laws g.met.V.Portable.laws _ _ c.requires.stands c.requires.below.0 c.args.node c.requires.below.1 in
    omega (arith, node.leaf_inside, c.len_at.ensures.inside)
