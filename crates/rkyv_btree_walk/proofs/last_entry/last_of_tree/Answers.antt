-- Each node that is met stands, and its last entry is the last so far.
use Rattle.std.proofs.Common.{arith, refl, sym, ◌∙◌}
use Rattle.rkyv_btree_format.proofs.Sizes.{room_of}
use Rattle.rkyv_btree_format.specs.Layout.{layout_of}
use Rattle.rkyv_btree_walk.proofs.Lasts.{last_below, last_here, last_of_none}
use Rattle.rkyv_btree_walk.proofs.Nodes.{child_before, child_stands, tree_levels, tree_node}
use Rattle.rkyv_btree_walk.proofs.Paths.{inner_run, leaf_run}
use Rattle.rkyv_btree_walk.proofs.Searches.{inner_counted, leaf_alone, leaf_counted}
use Rattle.rkyv_btree_walk.proofs.last_entry.last_of_tree.Goals as goal

pub down-init : goal.down-init
down-init g c = record { levels = 32; tree = c.requires.tree; stands = tt; last = refl }

pub is_leaf-requires-clause-node : goal.is_leaf-requires-clause-node
is_leaf-requires-clause-node g c = tree_node _ _ _ _ _ c.down.node c.down.invariant.tree

pub leaf_count-count-requires-clause-node : goal.leaf_count-count-requires-clause-node
leaf_count-count-requires-clause-node g c = tree_node _ _ _ _ _ c.down.node c.down.invariant.tree

pub returns-then-count-eq0-clause-last : goal.returns-then-count-eq0-clause-last
returns-then-count-eq0-clause-last g c =
    let s = layout_of g.K.Portable.kind g.V.Portable.kind g.M.ArchivedMap.E in
    let o = tree_levels _ _ _ _ _ c.down.node c.down.invariant.tree in
    let leaf = sym c.is_leaf.ensures ∙ c.if-is_leaf.true in
    let counted = leaf_counted s c.args.buf.now c.down.node leaf c.leaf_count-count.ensures in
    sym (c.down.invariant.last ∙ last_of_none s c.args.buf.now _ o.0 c.down.node _ o.1 (sym counted ∙ c.if-count-eq0.true) (leaf_alone s c.args.buf.now c.down.node 0 leaf))

pub returns-then-is_leaf-clause-stands : goal.returns-then-is_leaf-clause-stands
returns-then-is_leaf-clause-stands g c j low high =
    let leaf = sym c.is_leaf.ensures ∙ c.if-is_leaf.true in
    leaf_run _ _ _ _ c.down.node (tree_node _ _ _ _ _ c.down.node c.down.invariant.tree) leaf j (omega arith) (let counted = c.leaf_count-count.ensures in omega (arith, counted, c.if-count-eq0.false))

pub returns-then-is_leaf-clause-last : goal.returns-then-is_leaf-clause-last
returns-then-is_leaf-clause-last g c =
    let s = layout_of g.K.Portable.kind g.V.Portable.kind g.M.ArchivedMap.E in
    let o = tree_levels _ _ _ _ _ c.down.node c.down.invariant.tree in
    let leaf = sym c.is_leaf.ensures ∙ c.if-is_leaf.true in
    let counted = leaf_counted s c.args.buf.now c.down.node leaf c.leaf_count-count.ensures in
    sym (c.down.invariant.last ∙ last_here s c.args.buf.now _ o.0 c.down.node _ _ o.1 counted (omega (arith, c.if-count-eq0.false)) (leaf_alone s c.args.buf.now c.down.node _ leaf))

pub overflow_sub-last : goal.overflow_sub-last
overflow_sub-last g c =
    let room = room_of _ _ _ g.met.K.Portable.laws g.met.V.Portable.laws c.requires.fitting in
    omega (arith, room.entries, c.entries_per_node-count.ensures)

pub child-requires-clause-node : goal.child-requires-clause-node
child-requires-clause-node g c = tree_node _ _ _ _ _ c.down.node c.down.invariant.tree

pub returns-in-None-clause-stands : goal.returns-in-None-clause-stands
returns-in-None-clause-stands g c j low high =
    let room = room_of _ _ _ g.met.K.Portable.laws g.met.V.Portable.laws c.requires.fitting in
    inner_run _ _ _ _ c.down.node (tree_node _ _ _ _ _ c.down.node c.down.invariant.tree) (sym c.is_leaf.ensures ∙ c.if-is_leaf.false) j (omega (arith, room.entries, c.entries_per_node-count.ensures)) j (omega arith) (omega arith)

pub returns-in-None-clause-last : goal.returns-in-None-clause-last
returns-in-None-clause-last g c =
    let s = layout_of g.K.Portable.kind g.V.Portable.kind g.M.ArchivedMap.E in
    let room = room_of _ _ _ g.met.K.Portable.laws g.met.V.Portable.laws c.requires.fitting in
    let o = tree_levels _ _ _ _ _ c.down.node c.down.invariant.tree in
    let counted = inner_counted s c.args.buf.now c.down.node (sym c.is_leaf.ensures ∙ c.if-is_leaf.false) c.entries_per_node-count.ensures in
    sym (c.down.invariant.last ∙ last_here s c.args.buf.now _ o.0 c.down.node _ _ o.1 counted (omega (arith, room.entries, c.entries_per_node-count.ensures)) (sym c.child.ensures ∙ c.in-None.is))

pub down-smaller : goal.down-smaller
down-smaller g c =
    let node = tree_node _ _ _ _ _ c.down.node c.down.invariant.tree in
    child_before _ _ _ _ c.down.node node _ c.in-Some.below (omega (arith, c.entries_per_node-count.ensures)) (sym c.child.ensures ∙ c.in-Some.is)

pub down-preserved : goal.down-preserved
down-preserved g c =
    let s = layout_of g.K.Portable.kind g.V.Portable.kind g.M.ArchivedMap.E in
    let room = room_of _ _ _ g.met.K.Portable.laws g.met.V.Portable.laws c.requires.fitting in
    let o = tree_levels _ _ _ _ _ c.down.node c.down.invariant.tree in
    let to = sym c.child.ensures ∙ c.in-Some.is in
    let counted = inner_counted s c.args.buf.now c.down.node (sym c.is_leaf.ensures ∙ c.if-is_leaf.false) c.entries_per_node-count.ensures in
    let inner = sym c.is_leaf.ensures ∙ c.if-is_leaf.false in
    let below = child_stands _ _ _ _ o.0 c.down.node (rw o.1 at c.down.invariant.tree) _ c.in-Some.below (omega (arith, c.entries_per_node-count.ensures)) to in
    let p = tree_levels _ _ _ _ _ c.in-Some.below below in
    record {
      levels = o.0;
      tree = below;
      stands = λ j low high. inner_run _ _ _ _ c.down.node o.2 inner j (omega (arith, room.entries, c.entries_per_node-count.ensures)) j (omega arith) (omega arith);
      last = c.down.invariant.last ∙ last_below s c.args.buf.now _ o.0 p.0 c.down.node _ c.in-Some.below _ o.1 p.1 counted (omega (arith, room.entries, c.entries_per_node-count.ensures)) to;
    }
