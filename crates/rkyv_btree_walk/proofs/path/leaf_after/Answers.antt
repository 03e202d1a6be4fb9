-- The child of a node that stands does.
use Rattle.std.proofs.Common.{◌+◌, ◌∙◌, arith, sym}
use Rattle.rkyv_btree_walk.proofs.Nodes.{tree_node, tree_child_node}
use Rattle.rkyv_btree_walk.proofs.path.leaf_after.Goals as goal

pub child-requires-clause-node : goal.child-requires-clause-node
child-requires-clause-node g c = tree_node _ _ _ _ _ c.args.node c.requires.tree.1

pub is_leaf-requires-clause-node : goal.is_leaf-requires-clause-node
is_leaf-requires-clause-node g c =
    let less = rw c.entries_per_node.ensures at c.if-entries_per_node-index.true in
    tree_child_node _ _ _ _ _ c.args.node c.requires.tree.1 (c.args.index + 1) c.in_ok-below.below (omega arith) (sym c.child.ensures ∙ c.in_ok-below.was)

pub leaf_count-count-requires-clause-node : goal.leaf_count-count-requires-clause-node
leaf_count-count-requires-clause-node g c =
    let less = rw c.entries_per_node.ensures at c.if-entries_per_node-index.true in
    tree_child_node _ _ _ _ _ c.args.node c.requires.tree.1 (c.args.index + 1) c.in_ok-below.below (omega arith) (sym c.child.ensures ∙ c.in_ok-below.was)
