-- Each node that is met stands, and the search goes on where it stops.
use Rattle.std.proofs.Common.{arith, sym, ◌∙◌, rules}
use Rattle.rkyv_btree_format.proofs.Sizes.{room_of}
use Rattle.rkyv_btree_format.specs.Layout.{layout_of}
use Rattle.rkyv_btree_walk.specs.mirror.Node.{CanBeSearched, RunStands}
use Rattle.rkyv_btree_walk.proofs.Listed.{child_listed, entry_listed}
use Rattle.rkyv_btree_walk.proofs.Nodes.{tree_node, tree_levels, child_before, child_stands}
use Rattle.rkyv_btree_walk.proofs.Searches.{node_run, leaf_counted, inner_counted, leaf_alone, search_finds, search_ends, search_down, search_begins, search_then, search_on, compared_within}
use Rattle.rkyv_btree_walk.proofs.search.search_tree.Goals as goal

pub down-init : goal.down-init
down-init g c = (32, c.requires.tree.tree, omega arith, λ e there. there, λ f p. search_begins _)

pub is_leaf-requires-clause-node : goal.is_leaf-requires-clause-node
is_leaf-requires-clause-node g c = tree_node _ _ _ _ _ c.down.node c.down.invariant.1

pub leaf_count-count-requires-clause-node : goal.leaf_count-count-requires-clause-node
leaf_count-count-requires-clause-node g c = tree_node _ _ _ _ _ c.down.node c.down.invariant.1

pub overflow_cast-count : goal.overflow_cast-count
overflow_cast-count g c =
    let room = room_of _ _ _ g.met.K.Portable.laws g.met.V.Portable.laws c.requires.tree.fitting in
    omega (arith, room.entries, c.entries_per_node-count.ensures)

pub search_node-stop-requires : goal.search_node-stop-requires
search_node-stop-requires g c =
    let run : RunStands g.K.Portable.kind g.V.Portable.kind g.M.ArchivedMap.E c.args.buf.now c.down.node 0 c.leaf_count-count.result =
    rw (leaf_counted (layout_of g.K.Portable.kind g.V.Portable.kind g.M.ArchivedMap.E) c.args.buf.now c.down.node (sym c.is_leaf.ensures ∙ c.if-is_leaf.true) c.leaf_count-count.ensures) (node_run _ _ _ _ c.down.node (tree_node _ _ _ _ _ c.down.node c.down.invariant.1)) in
    let node : CanBeSearched g.K.Portable.kind g.V.Portable.kind g.M.ArchivedMap.E c.args.buf.now c.down.node c.leaf_count-count.result = record { fitting = c.requires.tree.fitting; short = c.requires.tree.short; run = run } in
    search rules

pub overflow_add-compared : goal.overflow_add-compared
overflow_add-compared g c =
    let room = room_of _ _ _ g.met.K.Portable.laws g.met.V.Portable.laws c.requires.tree.fitting in
    let o = tree_levels _ _ _ _ _ c.down.node c.down.invariant.1 in
    let within = compared_within _ c.down.compared c.from.result _ o.0 c.leaf_count-count.result c.down.invariant.2 o.1 (rw c.from.ensures c.comparisons.ensures.within) (rw (leaf_counted (layout_of g.K.Portable.kind g.V.Portable.kind g.M.ArchivedMap.E) c.args.buf.now c.down.node (sym c.is_leaf.ensures ∙ c.if-is_leaf.true) c.leaf_count-count.ensures) o.2.count) in
    omega (arith, within, room.entries)

pub returns-in-At-clause-stands : goal.returns-in-At-clause-stands
returns-in-At-clause-stands g c j low high =
    node_run _ _ _ _ c.down.node (tree_node _ _ _ _ _ c.down.node c.down.invariant.1) j (omega arith) (let within = c.in-At.ensures.within in rw (← (leaf_counted (layout_of g.K.Portable.kind g.V.Portable.kind g.M.ArchivedMap.E) c.args.buf.now c.down.node (sym c.is_leaf.ensures ∙ c.if-is_leaf.true) c.leaf_count-count.ensures)) (omega arith))

pub returns-in-At-clause-found : goal.returns-in-At-clause-found
returns-in-At-clause-found g c f p =
    let here = search_finds _ _ _ _ _ c.down.node _ c.down.invariant.1 (leaf_counted (layout_of g.K.Portable.kind g.V.Portable.kind g.M.ArchivedMap.E) c.args.buf.now c.down.node (sym c.is_leaf.ensures ∙ c.if-is_leaf.true) c.leaf_count-count.ensures) (f c.args.key.now) c.in-At.i (c.in-At.ensures.stops f p) in
    search_then c.down.compared c.from.result _ (c.down.invariant.4 f p) here (c.from.ensures ∙ rw c.in-At.is at c.comparisons.ensures.value)

pub returns-in-At-clause-listed : goal.returns-in-At-clause-listed
returns-in-At-clause-listed g c =
    let o = tree_levels _ _ _ _ _ c.down.node c.down.invariant.1 in
    let counted = leaf_counted (layout_of g.K.Portable.kind g.V.Portable.kind g.M.ArchivedMap.E) c.args.buf.now c.down.node (sym c.is_leaf.ensures ∙ c.if-is_leaf.true) c.leaf_count-count.ensures in
    let within = c.in-At.ensures.within in
    c.down.invariant.3 _ (entry_listed (layout_of g.K.Portable.kind g.V.Portable.kind g.M.ArchivedMap.E) c.args.buf.now _ o.0 c.down.node c.in-At.i o.1 (omega (arith, counted, within)))

pub returns-in-At-clause-few : goal.returns-in-At-clause-few
returns-in-At-clause-few g c =
    let o = tree_levels _ _ _ _ _ c.down.node c.down.invariant.1 in
    let within = compared_within _ c.down.compared c.from.result _ o.0 c.leaf_count-count.result c.down.invariant.2 o.1 (rw c.from.ensures c.comparisons.ensures.within) (rw (leaf_counted (layout_of g.K.Portable.kind g.V.Portable.kind g.M.ArchivedMap.E) c.args.buf.now c.down.node (sym c.is_leaf.ensures ∙ c.if-is_leaf.true) c.leaf_count-count.ensures) o.2.count) in
    omega (arith, within)

pub returns-in-Before-clause-found : goal.returns-in-Before-clause-found
returns-in-Before-clause-found g c f p =
    let none = leaf_alone _ _ c.down.node c.in-Before.field-0 (sym c.is_leaf.ensures ∙ c.if-is_leaf.true) in
    let here = search_ends _ _ _ _ _ c.down.node _ c.down.invariant.1 (leaf_counted (layout_of g.K.Portable.kind g.V.Portable.kind g.M.ArchivedMap.E) c.args.buf.now c.down.node (sym c.is_leaf.ensures ∙ c.if-is_leaf.true) c.leaf_count-count.ensures) (f c.args.key.now) c.in-Before.field-0 none (c.in-Before.ensures.stops f p) in
    search_then c.down.compared c.from.result _ (c.down.invariant.4 f p) here (c.from.ensures ∙ rw c.in-Before.is at c.comparisons.ensures.value)

pub returns-in-Before-clause-few : goal.returns-in-Before-clause-few
returns-in-Before-clause-few g c =
    let o = tree_levels _ _ _ _ _ c.down.node c.down.invariant.1 in
    let within = compared_within _ c.down.compared c.from.result _ o.0 c.leaf_count-count.result c.down.invariant.2 o.1 (rw c.from.ensures c.comparisons.ensures.within) (rw (leaf_counted (layout_of g.K.Portable.kind g.V.Portable.kind g.M.ArchivedMap.E) c.args.buf.now c.down.node (sym c.is_leaf.ensures ∙ c.if-is_leaf.true) c.leaf_count-count.ensures) o.2.count) in
    omega (arith, within)

pub search_node-stop-requires-in-down : goal.search_node-stop-requires-in-down
search_node-stop-requires-in-down g c =
    let run : RunStands g.K.Portable.kind g.V.Portable.kind g.M.ArchivedMap.E c.args.buf.now c.down.node 0 c.entries_per_node-count.result =
    rw (inner_counted (layout_of g.K.Portable.kind g.V.Portable.kind g.M.ArchivedMap.E) c.args.buf.now c.down.node (sym c.is_leaf.ensures ∙ c.if-is_leaf.false) c.entries_per_node-count.ensures) (node_run _ _ _ _ c.down.node (tree_node _ _ _ _ _ c.down.node c.down.invariant.1)) in
    let node : CanBeSearched g.K.Portable.kind g.V.Portable.kind g.M.ArchivedMap.E c.args.buf.now c.down.node c.entries_per_node-count.result = record { fitting = c.requires.tree.fitting; short = c.requires.tree.short; run = run } in
    search rules

pub overflow_add-compared-in-down : goal.overflow_add-compared-in-down
overflow_add-compared-in-down g c =
    let room = room_of _ _ _ g.met.K.Portable.laws g.met.V.Portable.laws c.requires.tree.fitting in
    let o = tree_levels _ _ _ _ _ c.down.node c.down.invariant.1 in
    let within = compared_within _ c.down.compared c.from-in-down.result _ o.0 c.entries_per_node-count.result c.down.invariant.2 o.1 (rw c.from-in-down.ensures c.comparisons-in-down.ensures.within) (rw (inner_counted (layout_of g.K.Portable.kind g.V.Portable.kind g.M.ArchivedMap.E) c.args.buf.now c.down.node (sym c.is_leaf.ensures ∙ c.if-is_leaf.false) c.entries_per_node-count.ensures) o.2.count) in
    omega (arith, within, room.entries)

pub returns-in-At-stop-clause-stands : goal.returns-in-At-stop-clause-stands
returns-in-At-stop-clause-stands g c j low high =
    node_run _ _ _ _ c.down.node (tree_node _ _ _ _ _ c.down.node c.down.invariant.1) j (omega arith) (let within = c.in-At-stop.ensures.within in rw (← (inner_counted (layout_of g.K.Portable.kind g.V.Portable.kind g.M.ArchivedMap.E) c.args.buf.now c.down.node (sym c.is_leaf.ensures ∙ c.if-is_leaf.false) c.entries_per_node-count.ensures)) (omega arith))

pub returns-in-At-stop-clause-found : goal.returns-in-At-stop-clause-found
returns-in-At-stop-clause-found g c f p =
    let here = search_finds _ _ _ _ _ c.down.node _ c.down.invariant.1 (inner_counted (layout_of g.K.Portable.kind g.V.Portable.kind g.M.ArchivedMap.E) c.args.buf.now c.down.node (sym c.is_leaf.ensures ∙ c.if-is_leaf.false) c.entries_per_node-count.ensures) (f c.args.key.now) c.in-At-stop.i (c.in-At-stop.ensures.stops f p) in
    search_then c.down.compared c.from-in-down.result _ (c.down.invariant.4 f p) here (c.from-in-down.ensures ∙ rw c.in-At-stop.is at c.comparisons-in-down.ensures.value)

pub returns-in-At-stop-clause-listed : goal.returns-in-At-stop-clause-listed
returns-in-At-stop-clause-listed g c =
    let o = tree_levels _ _ _ _ _ c.down.node c.down.invariant.1 in
    let counted = inner_counted (layout_of g.K.Portable.kind g.V.Portable.kind g.M.ArchivedMap.E) c.args.buf.now c.down.node (sym c.is_leaf.ensures ∙ c.if-is_leaf.false) c.entries_per_node-count.ensures in
    let within = c.in-At-stop.ensures.within in
    c.down.invariant.3 _ (entry_listed (layout_of g.K.Portable.kind g.V.Portable.kind g.M.ArchivedMap.E) c.args.buf.now _ o.0 c.down.node c.in-At-stop.i o.1 (omega (arith, counted, within)))

pub returns-in-At-stop-clause-few : goal.returns-in-At-stop-clause-few
returns-in-At-stop-clause-few g c =
    let o = tree_levels _ _ _ _ _ c.down.node c.down.invariant.1 in
    let within = compared_within _ c.down.compared c.from-in-down.result _ o.0 c.entries_per_node-count.result c.down.invariant.2 o.1 (rw c.from-in-down.ensures c.comparisons-in-down.ensures.within) (rw (inner_counted (layout_of g.K.Portable.kind g.V.Portable.kind g.M.ArchivedMap.E) c.args.buf.now c.down.node (sym c.is_leaf.ensures ∙ c.if-is_leaf.false) c.entries_per_node-count.ensures) o.2.count) in
    omega (arith, within)

pub child-requires-clause-node : goal.child-requires-clause-node
child-requires-clause-node g c = tree_node _ _ _ _ _ c.down.node c.down.invariant.1

pub returns-in-None-clause-found : goal.returns-in-None-clause-found
returns-in-None-clause-found g c f p =
    let here = search_ends _ _ _ _ _ c.down.node _ c.down.invariant.1 (inner_counted (layout_of g.K.Portable.kind g.V.Portable.kind g.M.ArchivedMap.E) c.args.buf.now c.down.node (sym c.is_leaf.ensures ∙ c.if-is_leaf.false) c.entries_per_node-count.ensures) (f c.args.key.now) c.in-Before-stop.i (sym c.child.ensures ∙ c.in-None.is) (c.in-Before-stop.ensures.stops f p) in
    search_then c.down.compared c.from-in-down.result _ (c.down.invariant.4 f p) here (c.from-in-down.ensures ∙ rw c.in-Before-stop.is at c.comparisons-in-down.ensures.value)

pub returns-in-None-clause-few : goal.returns-in-None-clause-few
returns-in-None-clause-few g c =
    let o = tree_levels _ _ _ _ _ c.down.node c.down.invariant.1 in
    let within = compared_within _ c.down.compared c.from-in-down.result _ o.0 c.entries_per_node-count.result c.down.invariant.2 o.1 (rw c.from-in-down.ensures c.comparisons-in-down.ensures.within) (rw (inner_counted (layout_of g.K.Portable.kind g.V.Portable.kind g.M.ArchivedMap.E) c.args.buf.now c.down.node (sym c.is_leaf.ensures ∙ c.if-is_leaf.false) c.entries_per_node-count.ensures) o.2.count) in
    omega (arith, within)

pub down-smaller : goal.down-smaller
down-smaller g c =
    let o = tree_levels _ _ _ _ _ c.down.node c.down.invariant.1 in
    child_before _ _ _ _ c.down.node o.2 c.in-Before-stop.i c.in-Some.below (omega (arith, c.in-Before-stop.ensures.within, c.entries_per_node-count.ensures)) (sym c.child.ensures ∙ c.in-Some.is)

pub down-preserved : goal.down-preserved
down-preserved g c =
    let o = tree_levels _ _ _ _ _ c.down.node c.down.invariant.1 in
    let to = sym c.child.ensures ∙ c.in-Some.is in
    let counted = inner_counted (layout_of g.K.Portable.kind g.V.Portable.kind g.M.ArchivedMap.E) c.args.buf.now c.down.node (sym c.is_leaf.ensures ∙ c.if-is_leaf.false) c.entries_per_node-count.ensures in (
      o.0,
      child_stands _ _ _ _ o.0 c.down.node (rw o.1 at c.down.invariant.1) c.in-Before-stop.i c.in-Some.below (omega (arith, c.in-Before-stop.ensures.within, c.entries_per_node-count.ensures)) to,
      compared_within _ c.down.compared c.from-in-down.result _ o.0 c.entries_per_node-count.result c.down.invariant.2 o.1 (rw c.from-in-down.ensures c.comparisons-in-down.ensures.within) (rw counted o.2.count),
      λ e there. c.down.invariant.3 e (child_listed (layout_of g.K.Portable.kind g.V.Portable.kind g.M.ArchivedMap.E) c.args.buf.now o.0 c.down.node e _ c.in-Before-stop.i c.in-Some.below o.1 (let within = c.in-Before-stop.ensures.within in omega (arith, counted, within)) to there),
      λ f p.
          let here = search_down _ _ _ _ _ c.down.node _ c.down.invariant.1 counted (f c.args.key.now) c.in-Before-stop.i o.0 c.in-Some.below o.1 to (c.in-Before-stop.ensures.stops f p) in
          search_on _ c.down.compared c.from-in-down.result _ (c.down.invariant.4 f p) here (c.from-in-down.ensures ∙ rw c.in-Before-stop.is at c.comparisons-in-down.ensures.value),
    )
