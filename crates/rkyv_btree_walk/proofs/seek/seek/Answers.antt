-- Each node that is met stands, and the way goes on beside its first entry that reaches the query.
use Rattle.std.proofs.Common.{◌≡◌, ◌+◌, ◌-◌, ◌≤◌, [], ◌∙◌, length, refl, sym, arith, rules, Some}
use Rattle.std.proofs.lemmas.List.{append-nil}
use Rattle.rkyv_btree_format.specs.Layout.{layout_of}
use Rattle.rkyv_btree_walk.specs.mirror.Node.{RunCanBeRead}
use Rattle.rkyv_btree_walk.specs.mirror.Range.{reached_at}
use Rattle.rkyv_btree_walk.proofs.Below.{put_below}
use Rattle.rkyv_btree_walk.proofs.Nodes.{tree_node, child_before}
use Rattle.rkyv_btree_walk.proofs.Paths.{put_short, put_path, put_child}
use Rattle.rkyv_btree_walk.proofs.Searches.{leaf_counted, inner_counted}
use Rattle.rkyv_btree_walk.proofs.Seeks.{kept_behind, below_climbs, leaves_leaf, leaves_absent, leaves_child}
use Rattle.rkyv_btree_walk.proofs.seek.seek.Goals as goal

pub down-init : goal.down-init
down-init g c = rw c.requires.empty (record { path = tt; tree = c.requires.tree.tree; skipped = []; run = sym (append-nil _); from = λ f p rises. (refl, tt); below = (tt, refl) })

pub is_leaf-requires-clause-node : goal.is_leaf-requires-clause-node
is_leaf-requires-clause-node g c = tree_node _ _ _ _ _ c.down.node c.down.invariant.tree

pub leaf_end-end-requires-clause-node : goal.leaf_end-end-requires-clause-node
leaf_end-end-requires-clause-node g c = tree_node _ _ _ _ _ c.down.node c.down.invariant.tree

pub seek_node-next-requires : goal.seek_node-next-requires
seek_node-next-requires g c =
    let node : RunCanBeRead g.K.Portable.kind g.V.Portable.kind g.M.ArchivedMap.E c.args.buf.now c.down.node 0 c.leaf_end-end.result = record { fitting = c.requires.tree.fitting; short = c.requires.tree.short; run = c.leaf_end-end.ensures.stands } in
    search rules

pub returns-then-is_leaf-clause-path : goal.returns-then-is_leaf-clause-path
returns-then-is_leaf-clause-path g c = c.down.invariant.path

pub returns-then-is_leaf-clause-stands : goal.returns-then-is_leaf-clause-stands
returns-then-is_leaf-clause-stands g c = λ j low high. c.leaf_end-end.ensures.stands j (omega arith) high

pub returns-then-is_leaf-clause-run : goal.returns-then-is_leaf-clause-run
returns-then-is_leaf-clause-run g c =
    let leaf = sym c.is_leaf.ensures ∙ c.if-is_leaf.true in
    let counted = leaf_counted (layout_of g.K.Portable.kind g.V.Portable.kind g.M.ArchivedMap.E) c.args.buf.now c.down.node leaf c.leaf_end-end.ensures.count in
    let inv = c.down.invariant in
    let leaves = leaves_leaf _ _ _ _ c.down.node _ _ c.down.path.items _ inv.skipped inv.path inv.tree counted c.seek_node-next.ensures.within inv.run leaf _ c.leaf_end-end.ensures.count in
    (leaves.0, leaves.1)

pub returns-then-is_leaf-clause-from : goal.returns-then-is_leaf-clause-from
returns-then-is_leaf-clause-from g c f p rises =
    let leaf = sym c.is_leaf.ensures ∙ c.if-is_leaf.true in
    let counted = leaf_counted (layout_of g.K.Portable.kind g.V.Portable.kind g.M.ArchivedMap.E) c.args.buf.now c.down.node leaf c.leaf_end-end.ensures.count in
    let inv = c.down.invariant in
    let leaves = leaves_leaf _ _ _ _ c.down.node _ _ c.down.path.items _ inv.skipped inv.path inv.tree counted c.seek_node-next.ensures.within inv.run leaf _ c.leaf_end-end.ensures.count in
    let climbs = below_climbs _ _ _ _ c.down.node _ _ inv.tree inv.skipped _ inv.run (reached_at g.K.Portable.kind g.V.Portable.kind g.M.ArchivedMap.E c.args.buf.now c.args.past (f c.args.key.now)) counted rises in
    let pass = leaves.2 _ rises (c.seek_node-next.ensures.first f p climbs) (inv.from f p rises) in
    kept_behind _ _ leaves.0 _ leaves.1 pass.0 pass.1

pub inner_end-count-requires-clause-node : goal.inner_end-count-requires-clause-node
inner_end-count-requires-clause-node g c = tree_node _ _ _ _ _ c.down.node c.down.invariant.tree

pub seek_node-next-requires-in-down : goal.seek_node-next-requires-in-down
seek_node-next-requires-in-down g c =
    let node : RunCanBeRead g.K.Portable.kind g.V.Portable.kind g.M.ArchivedMap.E c.args.buf.now c.down.node 0 c.inner_end-count.result = record { fitting = c.requires.tree.fitting; short = c.requires.tree.short; run = c.inner_end-count.ensures.stands } in
    search rules

pub push-requires : goal.push-requires
push-requires g c =
    let short = put_short _ _ _ _ 32 _ 0 c.down.path.items c.down.invariant.path c.down.invariant.tree in
    (omega arith, omega (arith, short))

pub child-requires-clause-node : goal.child-requires-clause-node
child-requires-clause-node g c = tree_node _ _ _ _ _ c.down.node c.down.invariant.tree

pub returns-in-None-clause-path : goal.returns-in-None-clause-path
returns-in-None-clause-path g c =
    let inner = sym c.is_leaf.ensures ∙ c.if-is_leaf.false in
    let low : c.seek_node-next-in-down.result ≤ g.M.ArchivedMap.E = rw c.inner_end-count.ensures.count at c.seek_node-next-in-down.ensures.within in
    rw c.push.ensures.items (put_path _ _ _ _ 32 _ _ c.down.path.items c.down.invariant.path c.down.invariant.tree inner low)

pub returns-in-None-clause-run : goal.returns-in-None-clause-run
returns-in-None-clause-run g c =
    let inner = sym c.is_leaf.ensures ∙ c.if-is_leaf.false in
    let counted = inner_counted (layout_of g.K.Portable.kind g.V.Portable.kind g.M.ArchivedMap.E) c.args.buf.now c.down.node inner c.inner_end-count.ensures.count in
    let inv = c.down.invariant in
    let none = sym c.child.ensures ∙ c.in-None.is in
    let leaves = leaves_absent _ _ _ _ c.down.node _ _ c.down.path.items _ inv.skipped inv.path inv.tree counted c.seek_node-next-in-down.ensures.within inv.run none _ c.push.ensures.items in
    (leaves.0, leaves.1)

pub returns-in-None-clause-from : goal.returns-in-None-clause-from
returns-in-None-clause-from g c f p rises =
    let inner = sym c.is_leaf.ensures ∙ c.if-is_leaf.false in
    let counted = inner_counted (layout_of g.K.Portable.kind g.V.Portable.kind g.M.ArchivedMap.E) c.args.buf.now c.down.node inner c.inner_end-count.ensures.count in
    let inv = c.down.invariant in
    let none = sym c.child.ensures ∙ c.in-None.is in
    let leaves = leaves_absent _ _ _ _ c.down.node _ _ c.down.path.items _ inv.skipped inv.path inv.tree counted c.seek_node-next-in-down.ensures.within inv.run none _ c.push.ensures.items in
    let climbs = below_climbs _ _ _ _ c.down.node _ _ inv.tree inv.skipped _ inv.run (reached_at g.K.Portable.kind g.V.Portable.kind g.M.ArchivedMap.E c.args.buf.now c.args.past (f c.args.key.now)) counted rises in
    let pass = leaves.2 _ rises (c.seek_node-next-in-down.ensures.first f p climbs) (inv.from f p rises) in
    kept_behind _ _ leaves.0 _ leaves.1 pass.0 pass.1

pub returns-in-None-clause-below : goal.returns-in-None-clause-below
returns-in-None-clause-below g c =
    let s = layout_of g.K.Portable.kind g.V.Portable.kind g.M.ArchivedMap.E in
    let inner = sym c.is_leaf.ensures ∙ c.if-is_leaf.false in
    let low : c.seek_node-next-in-down.result ≤ g.M.ArchivedMap.E = rw c.inner_end-count.ensures.count at c.seek_node-next-in-down.ensures.within in
    let way = c.down.invariant.below in
    let put = put_below s c.args.buf.now (Some c.args.root) c.down.node _ c.down.path.items c.push.new.self.items c.push.ensures.items way.0 way.1 inner low c.push.ensures.len in
    (λ less. absurd (omega arith), put.0)

pub down-smaller : goal.down-smaller
down-smaller g c =
    let node = tree_node _ _ _ _ _ c.down.node c.down.invariant.tree in
    let low : c.seek_node-next-in-down.result ≤ g.M.ArchivedMap.E = rw c.inner_end-count.ensures.count at c.seek_node-next-in-down.ensures.within in
    child_before _ _ _ _ c.down.node node _ c.in-Some.below low (sym c.child.ensures ∙ c.in-Some.is)

pub down-preserved : goal.down-preserved
down-preserved g c =
    let K = g.K.Portable.kind in let V = g.V.Portable.kind in let E = g.M.ArchivedMap.E in
    let b = c.args.buf.now in
    let j = c.seek_node-next-in-down.result in
    let within = c.seek_node-next-in-down.ensures.within in
    let s = layout_of g.K.Portable.kind g.V.Portable.kind g.M.ArchivedMap.E in
    let inner = sym c.is_leaf.ensures ∙ c.if-is_leaf.false in
    let counted = inner_counted s c.args.buf.now c.down.node inner c.inner_end-count.ensures.count in
    let inv = c.down.invariant in
    let low : j ≤ E = rw c.inner_end-count.ensures.count at within in
    let levels = 32 - length c.push.new.self.items in
    let less : levels ≡ 32 - (length c.down.path.items + 1) = omega (arith, c.push.ensures.len) in
    let some = sym c.child.ensures ∙ c.in-Some.is in
    let below = put_child K V E b 32 c.down.node j c.down.path.items inv.path inv.tree low c.in-Some.below some levels less in
    let put = put_below s b (Some c.args.root) c.down.node j c.down.path.items c.push.new.self.items c.push.ensures.items inv.below.0 inv.below.1 inner low c.push.ensures.len in
    let leaves = leaves_child K V E b c.down.node j _ c.down.path.items _ inv.skipped inv.path inv.tree counted within inv.run low c.in-Some.below some levels less _ c.push.ensures.items in
    record {
      path = rw c.push.ensures.items (put_path K V E b 32 c.down.node j c.down.path.items inv.path inv.tree inner low);
      tree = below.0;
      skipped = leaves.0;
      run = leaves.1;
      from = λ f p rises.
          let climbs = below_climbs K V E b c.down.node _ _ inv.tree inv.skipped _ inv.run (reached_at K V E b c.args.past (f c.args.key.now)) counted rises in
          leaves.2 _ rises (c.seek_node-next-in-down.ensures.first f p climbs) (inv.from f p rises);
      below = (put.0, put.1 c.in-Some.below some);
    }
