-- The nodes of a tree can be read, and what the children have fits.
use Rattle.std.proofs.Common.{◌≡◌, ◌-◌, sym, ◌∙◌, arith, false, true}
use Rattle.rkyv_btree_walk.specs.Nodes.{is_leaf}
use Rattle.btreekv_commands.specs.Nodes.{text_layout}
use Rattle.btreekv_commands.proofs.TreeSums.{spelled_node, some_levels, leaf_sum, child_spelled, beside_small, above_small}
use Rattle.btreekv_commands.proofs.tree_figures.+of_tree.Goals as goal

pub of_node-own-requires-clause-node : goal.of_node-own-requires-clause-node
of_node-own-requires-clause-node t c = spelled_node c.args.archive.now c.args.levels c.args.node c.requires.spelled

pub is_leaf-requires : goal.is_leaf-requires
is_leaf-requires t c = spelled_node c.args.archive.now c.args.levels c.args.node c.requires.spelled

pub returns-then-is_leaf : goal.returns-then-is_leaf
returns-then-is_leaf t c =
    let leaf : is_leaf text_layout c.args.archive.now c.args.node ≡ true = sym c.is_leaf.ensures ∙ c.if-is_leaf.true in
    let some = some_levels c.args.archive.now c.args.levels c.args.node c.requires.spelled in
    c.of_node-own.ensures.leaf leaf ∙ sym (leaf_sum c.args.archive.now c.args.levels (c.args.levels - 1) c.args.node (omega arith) leaf)

pub child-requires-clause-node : goal.child-requires-clause-node
child-requires-clause-node t c = spelled_node c.args.archive.now c.args.levels c.args.node c.requires.spelled

pub overflow_sub-levels : goal.overflow_sub-levels
overflow_sub-levels t c = some_levels c.args.archive.now c.args.levels c.args.node c.requires.spelled

pub of_tree-requires : goal.of_tree-requires
of_tree-requires t c =
    let some = some_levels c.args.archive.now c.args.levels c.args.node c.requires.spelled in
    (omega arith, (c.requires.short, child_spelled c.args.archive.now c.args.levels (c.args.levels - 1) c.args.node c.children.index c.in-Some.child c.requires.spelled (omega arith) (omega arith) (sym c.child.ensures ∙ c.in-Some.is)))

pub beside-below-requires : goal.beside-below-requires
beside-below-requires t c =
    let some = some_levels c.args.archive.now c.args.levels c.args.node c.requires.spelled in
    beside_small c.args.archive.now c.args.levels (c.args.levels - 1) c.args.node c.children.index c.in-Some.child c.children.below c.of_tree.result c.requires.spelled (omega arith)
    (sym c.is_leaf.ensures ∙ c.if-is_leaf.false) (omega arith) (sym c.child.ensures ∙ c.in-Some.is) c.requires.short c.children.invariant c.of_tree.ensures

pub above-requires-clause-size : goal.above-requires-clause-size
above-requires-clause-size t c =
    let some = some_levels c.args.archive.now c.args.levels c.args.node c.requires.spelled in
    let inner : is_leaf text_layout c.args.archive.now c.args.node ≡ false = sym c.is_leaf.ensures ∙ c.if-is_leaf.false in
    let small = above_small c.args.archive.now c.args.levels (c.args.levels - 1) c.args.node c.children.index c.of_node-own.result c.children.below c.requires.spelled (omega arith) inner (omega arith) (c.of_node-own.ensures.inner inner) c.children.invariant in
    let size = small.0 in
    omega (arith, c.requires.short)

pub above-requires-clause-levels : goal.above-requires-clause-levels
above-requires-clause-levels t c =
    let some = some_levels c.args.archive.now c.args.levels c.args.node c.requires.spelled in
    let inner : is_leaf text_layout c.args.archive.now c.args.node ≡ false = sym c.is_leaf.ensures ∙ c.if-is_leaf.false in
    let small = above_small c.args.archive.now c.args.levels (c.args.levels - 1) c.args.node c.children.index c.of_node-own.result c.children.below c.requires.spelled (omega arith) inner (omega arith) (c.of_node-own.ensures.inner inner) c.children.invariant in
    let few = small.1 in
    let fits = c.ranges.levels in
    omega arith

pub returns : goal.returns
returns t c =
    let some = some_levels c.args.archive.now c.args.levels c.args.node c.requires.spelled in
    let inner : is_leaf text_layout c.args.archive.now c.args.node ≡ false = sym c.is_leaf.ensures ∙ c.if-is_leaf.false in
    c.above.ensures ∙ (above_small c.args.archive.now c.args.levels (c.args.levels - 1) c.args.node c.children.index c.of_node-own.result c.children.below c.requires.spelled (omega arith) inner (omega arith) (c.of_node-own.ensures.inner inner) c.children.invariant).2
