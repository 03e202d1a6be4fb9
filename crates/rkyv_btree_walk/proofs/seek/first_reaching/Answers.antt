-- Each node of the path stands. The way stays on the path as long as the first entry is its node's next one.
use Rattle.std.proofs.Common.{ℕ, ◌-◌, ◌≤◌, ◌∙◌, slice_index_or, sym, arith, rules}
use Rattle.rkyv_btree_format.specs.Layout.{layout_of}
use Rattle.rkyv_btree_format.specs.Read.{run}
use Rattle.rkyv_btree_walk.specs.mirror.Node.{RunCanBeRead, TreeStands}
use Rattle.rkyv_btree_walk.specs.mirror.Range.{reached_at}
use Rattle.rkyv_btree_walk.proofs.Nodes.{tree_node, child_stands}
use Rattle.rkyv_btree_walk.proofs.Searches.{inner_counted}
use Rattle.rkyv_btree_walk.proofs.Stops.{IsEntryOr, child_tree, node_on, stays, leaves_none, leaves_into, walk_first}
use Rattle.rkyv_btree_walk.proofs.seek.first_reaching.Goals as goal

pub inner_end-count-requires-clause-node : goal.inner_end-count-requires-clause-node
inner_end-count-requires-clause-node g c =
    let on = node_on _ _ _ _ _ _ c.loop-frame.frame-index c.as_slice-nodes.ensures.value c.requires.path c.loop-frame-test.true in
    tree_node _ _ _ _ _ _ on.tree

pub inner_end-count-requires-clause-inner : goal.inner_end-count-requires-clause-inner
inner_end-count-requires-clause-inner g c =
    (node_on _ _ _ _ _ _ c.loop-frame.frame-index c.as_slice-nodes.ensures.value c.requires.path c.loop-frame-test.true).inner

pub scan_node-next-requires : goal.scan_node-next-requires
scan_node-next-requires g c =
    let f : ℕ × ℕ = slice_index_or c.as_slice-nodes.result.now c.loop-frame.frame-index (0, 0) in
    let on = node_on _ _ _ _ _ _ c.loop-frame.frame-index c.as_slice-nodes.ensures.value c.requires.path c.loop-frame-test.true in
    let ends : f.1 ≤ c.inner_end-count.result = rw (← c.inner_end-count.ensures.count) at on.within in
    let run : RunCanBeRead g.K.Portable.kind g.V.Portable.kind g.M.ArchivedMap.E c.args.buf.now f.0 f.1 c.inner_end-count.result = record { fitting = c.requires.fitting; short = c.requires.short; run = λ j low high. c.inner_end-count.ensures.stands j (omega arith) high } in
    search rules

pub child-requires-clause-node : goal.child-requires-clause-node
child-requires-clause-node g c =
    let on = node_on _ _ _ _ _ _ c.loop-frame.frame-index c.as_slice-nodes.ensures.value c.requires.path c.loop-frame-test.true in
    tree_node _ _ _ _ _ _ on.tree

pub child-requires-clause-inner : goal.child-requires-clause-inner
child-requires-clause-inner g c =
    (node_on _ _ _ _ _ _ c.loop-frame.frame-index c.as_slice-nodes.ensures.value c.requires.path c.loop-frame-test.true).inner

pub first_below-requires : goal.first_below-requires
first_below-requires g c =
    let on = node_on _ _ _ _ _ _ c.loop-frame.frame-index c.as_slice-nodes.ensures.value c.requires.path c.loop-frame-test.true in
    let low : c.scan_node-next.result ≤ g.M.ArchivedMap.E = rw c.inner_end-count.ensures.count at c.scan_node-next.ensures.within in
    let below = child_tree _ _ _ _ _ _ on.tree c.scan_node-next.result c.in-Some.below low (sym c.child.ensures ∙ c.in-Some.is) in
    let tree : (levels : ℕ) × TreeStands g.K.Portable.kind g.V.Portable.kind g.M.ArchivedMap.E c.args.buf.now levels c.in-Some.below = (below.0, below.2) in
    search rules

pub returns-in-None : goal.returns-in-None
returns-in-None g c f p rises =
    let K = g.K.Portable.kind in let V = g.V.Portable.kind in let E = g.M.ArchivedMap.E in
    let b = c.args.buf.now in
    let on = node_on K V E b _ _ c.loop-frame.frame-index c.as_slice-nodes.ensures.value c.requires.path c.loop-frame-test.true in
    let counted = inner_counted (layout_of K V E) b _ on.inner c.inner_end-count.ensures.count in
    let test = reached_at K V E b c.args.past (f c.args.key.now) in
    let entry : IsEntryOr (slice_index_or c.as_slice-nodes.result.now c.loop-frame.frame-index (0, 0)).0 c.scan_node-next.result c.inner_end-count.result c.loop-frame.stop c.entry_or-stop.result = record { there = c.entry_or-stop.ensures.there; none = c.entry_or-stop.ensures.none } in
    let front = run (layout_of K V E) b c.args.part.node (c.args.part.end - c.args.part.next) c.args.part.next in
    leaves_none K V E b _ _ c.loop-frame.frame-index c.as_slice-nodes.ensures.value c.requires.path c.loop-frame-test.true test c.loop-frame.stop (c.loop-frame.invariant f p) c.scan_node-next.result c.inner_end-count.result c.entry_or-stop.result entry counted c.scan_node-next.ensures.within (c.scan_node-next.ensures.first f p) c.if-index-next.true front rises (sym c.child.ensures ∙ c.in-None.is)

pub returns-in-Some : goal.returns-in-Some
returns-in-Some g c f p rises =
    let K = g.K.Portable.kind in let V = g.V.Portable.kind in let E = g.M.ArchivedMap.E in
    let b = c.args.buf.now in
    let on = node_on K V E b _ _ c.loop-frame.frame-index c.as_slice-nodes.ensures.value c.requires.path c.loop-frame-test.true in
    let counted = inner_counted (layout_of K V E) b _ on.inner c.inner_end-count.ensures.count in
    let test = reached_at K V E b c.args.past (f c.args.key.now) in
    let entry : IsEntryOr (slice_index_or c.as_slice-nodes.result.now c.loop-frame.frame-index (0, 0)).0 c.scan_node-next.result c.inner_end-count.result c.loop-frame.stop c.entry_or-stop.result = record { there = c.entry_or-stop.ensures.there; none = c.entry_or-stop.ensures.none } in
    let low : c.scan_node-next.result ≤ E = rw c.inner_end-count.ensures.count at c.scan_node-next.ensures.within in
    let some = sym c.child.ensures ∙ c.in-Some.is in
    let tree = child_stands K V E b on.below _ on.tree c.scan_node-next.result c.in-Some.below low some in
    let front = run (layout_of K V E) b c.args.part.node (c.args.part.end - c.args.part.next) c.args.part.next in
    let into = leaves_into K V E b _ _ c.loop-frame.frame-index c.as_slice-nodes.ensures.value c.requires.path c.loop-frame-test.true test c.loop-frame.stop (c.loop-frame.invariant f p) c.scan_node-next.result c.inner_end-count.result c.entry_or-stop.result entry counted c.scan_node-next.ensures.within (c.scan_node-next.ensures.first f p) c.if-index-next.true front rises c.in-Some.below tree some in
    c.first_below.ensures on.below tree f p into.0 ∙ into.1

pub loop-frame-preserved : goal.loop-frame-preserved
loop-frame-preserved g c f p =
    let K = g.K.Portable.kind in let V = g.V.Portable.kind in let E = g.M.ArchivedMap.E in
    let b = c.args.buf.now in
    let on = node_on K V E b _ _ c.loop-frame.frame-index c.as_slice-nodes.ensures.value c.requires.path c.loop-frame-test.true in
    let counted = inner_counted (layout_of K V E) b _ on.inner c.inner_end-count.ensures.count in
    let test = reached_at K V E b c.args.past (f c.args.key.now) in
    let entry : IsEntryOr (slice_index_or c.as_slice-nodes.result.now c.loop-frame.frame-index (0, 0)).0 c.scan_node-next.result c.inner_end-count.result c.loop-frame.stop c.entry_or-stop.result = record { there = c.entry_or-stop.ensures.there; none = c.entry_or-stop.ensures.none } in
    stays K V E b _ _ c.loop-frame.frame-index c.as_slice-nodes.ensures.value c.requires.path c.loop-frame-test.true test c.loop-frame.stop (c.loop-frame.invariant f p) c.scan_node-next.result c.inner_end-count.result c.entry_or-stop.result entry counted c.scan_node-next.ensures.within (c.scan_node-next.ensures.first f p) c.scan_node-next.ensures.begins c.if-index-next.false

pub returns : goal.returns
returns g c f p rises =
    let K = g.K.Portable.kind in let V = g.V.Portable.kind in let E = g.M.ArchivedMap.E in
    let test = reached_at K V E c.args.buf.now c.args.past (f c.args.key.now) in
    let entry : IsEntryOr c.args.part.node c.scan_node-next-2.result c.args.part.end c.loop-frame.stop c.entry_or.result = record { there = c.entry_or.ensures.there; none = c.entry_or.ensures.none } in
    walk_first (layout_of K V E) c.args.buf.now test c.args.path.now.items c.args.part.node c.args.part.next c.args.part.end c.requires.within _ c.loop-frame.frame-index c.as_slice-nodes.ensures.value (omega (arith, c.loop-frame-test.false)) c.loop-frame.stop (c.loop-frame.invariant f p) c.scan_node-next-2.result c.entry_or.result c.scan_node-next-2.ensures.begins c.scan_node-next-2.ensures.within (c.scan_node-next-2.ensures.first f p) entry
