-- Each node that is met stands, and the first entry of its tree is in the child before its own first one, or is that one.
use Rattle.std.proofs.Common.{◌≤◌, ◌∙◌, refl, sym, arith}
use Rattle.rkyv_btree_format.specs.Layout.{layout_of}
use Rattle.rkyv_btree_walk.specs.mirror.Range.{reached_at}
use Rattle.rkyv_btree_walk.proofs.Nodes.{tree_node, child_before}
use Rattle.rkyv_btree_walk.proofs.Searches.{leaf_counted, inner_counted, leaf_alone}
use Rattle.rkyv_btree_walk.proofs.Seeks.{tree_climbs}
use Rattle.rkyv_btree_walk.proofs.Stops.{IsEntryOr, child_tree, below_none, below_some}
use Rattle.rkyv_btree_walk.proofs.seek.first_below.Goals as goal

pub down-init : goal.down-init
down-init g c = record { tree = c.requires.tree; found = λ levels tree. (levels, tree, λ f p rises. (rises, refl)) }

pub is_leaf-requires-clause-node : goal.is_leaf-requires-clause-node
is_leaf-requires-clause-node g c = let tree = c.down.invariant.tree in tree_node _ _ _ _ tree.0 c.down.node tree.1

pub leaf_end-end-requires-clause-node : goal.leaf_end-end-requires-clause-node
leaf_end-end-requires-clause-node g c = let tree = c.down.invariant.tree in tree_node _ _ _ _ tree.0 c.down.node tree.1

pub inner_end-count-requires-clause-node : goal.inner_end-count-requires-clause-node
inner_end-count-requires-clause-node g c = let tree = c.down.invariant.tree in tree_node _ _ _ _ tree.0 c.down.node tree.1

pub child-requires-clause-node : goal.child-requires-clause-node
child-requires-clause-node g c = let tree = c.down.invariant.tree in tree_node _ _ _ _ tree.0 c.down.node tree.1

pub returns-then-is_leaf : goal.returns-then-is_leaf
returns-then-is_leaf g c levels tree f p rises =
    let s = layout_of g.K.Portable.kind g.V.Portable.kind g.M.ArchivedMap.E in
    let leaf = sym c.is_leaf.ensures ∙ c.if-is_leaf.true in
    let counted = leaf_counted s c.args.buf.now c.down.node leaf c.leaf_end-end.ensures.count in
    let found = c.down.invariant.found levels tree in
    let here = found.2 f p rises in
    let test = reached_at g.K.Portable.kind g.V.Portable.kind g.M.ArchivedMap.E c.args.buf.now c.args.past (f c.args.key.now) in
    let entry : IsEntryOr c.down.node c.seek_node-next.result c.leaf_end-end.result c.down.stop c.entry_or.result = record { there = c.entry_or.ensures.there; none = c.entry_or.ensures.none } in
    below_none _ _ _ _ found.0 c.down.node found.1 test 0 _ _ _ _ entry counted (omega arith) c.seek_node-next.ensures.within here.0 (c.seek_node-next.ensures.first f p (tree_climbs _ _ _ _ found.0 c.down.node found.1 test 0 _ counted here.0)) (leaf_alone s c.args.buf.now c.down.node c.seek_node-next.result leaf)
    ∙ here.1

pub returns-in-None : goal.returns-in-None
returns-in-None g c levels tree f p rises =
    let s = layout_of g.K.Portable.kind g.V.Portable.kind g.M.ArchivedMap.E in
    let inner = sym c.is_leaf.ensures ∙ c.if-is_leaf.false in
    let counted = inner_counted s c.args.buf.now c.down.node inner c.inner_end-count.ensures.count in
    let found = c.down.invariant.found levels tree in
    let here = found.2 f p rises in
    let test = reached_at g.K.Portable.kind g.V.Portable.kind g.M.ArchivedMap.E c.args.buf.now c.args.past (f c.args.key.now) in
    let entry : IsEntryOr c.down.node c.seek_node-next-in-down.result c.inner_end-count.result c.down.stop c.entry_or-stop.result = record { there = c.entry_or-stop.ensures.there; none = c.entry_or-stop.ensures.none } in
    below_none _ _ _ _ found.0 c.down.node found.1 test 0 _ _ _ _ entry counted (omega arith) c.seek_node-next-in-down.ensures.within here.0 (c.seek_node-next-in-down.ensures.first f p (tree_climbs _ _ _ _ found.0 c.down.node found.1 test 0 _ counted here.0)) (sym c.child.ensures ∙ c.in-None.is)
    ∙ here.1

pub down-smaller : goal.down-smaller
down-smaller g c =
    let tree = c.down.invariant.tree in
    let node = tree_node _ _ _ _ tree.0 c.down.node tree.1 in
    let low : c.seek_node-next-in-down.result ≤ g.M.ArchivedMap.E = rw c.inner_end-count.ensures.count at c.seek_node-next-in-down.ensures.within in
    child_before _ _ _ _ c.down.node node _ c.in-Some.below low (sym c.child.ensures ∙ c.in-Some.is)

pub down-preserved : goal.down-preserved
down-preserved g c =
    let s = layout_of g.K.Portable.kind g.V.Portable.kind g.M.ArchivedMap.E in
    let inner = sym c.is_leaf.ensures ∙ c.if-is_leaf.false in
    let counted = inner_counted s c.args.buf.now c.down.node inner c.inner_end-count.ensures.count in
    let low : c.seek_node-next-in-down.result ≤ g.M.ArchivedMap.E = rw c.inner_end-count.ensures.count at c.seek_node-next-in-down.ensures.within in
    let some = sym c.child.ensures ∙ c.in-Some.is in
    let entry : IsEntryOr c.down.node c.seek_node-next-in-down.result c.inner_end-count.result c.down.stop c.entry_or-stop.result = record { there = c.entry_or-stop.ensures.there; none = c.entry_or-stop.ensures.none } in
    let tree = c.down.invariant.tree in
    let below = child_tree _ _ _ _ tree.0 c.down.node tree.1 _ c.in-Some.below low some in
    record {
      tree = (below.0, below.2);
      found = λ levels top.
          let found = c.down.invariant.found levels top in
          let below = child_tree _ _ _ _ found.0 c.down.node found.1 _ c.in-Some.below low some in (
            below.0,
            below.2,
            λ f p rises.
                let here = found.2 f p rises in
                let test = reached_at g.K.Portable.kind g.V.Portable.kind g.M.ArchivedMap.E c.args.buf.now c.args.past (f c.args.key.now) in
                let test = reached_at g.K.Portable.kind g.V.Portable.kind g.M.ArchivedMap.E c.args.buf.now c.args.past (f c.args.key.now) in
                let down = below_some _ _ _ _ found.0 c.down.node found.1 test 0 _ _ _ _ entry counted (omega arith) c.seek_node-next-in-down.ensures.within here.0 (c.seek_node-next-in-down.ensures.first f p (tree_climbs _ _ _ _ found.0 c.down.node found.1 test 0 _ counted here.0)) c.in-Some.below below.0 below.1 below.2 some in
                (down.0, down.1 ∙ here.1),
          );
    }
