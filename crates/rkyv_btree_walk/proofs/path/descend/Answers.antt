-- Each node that is met stands, and is put on the path unless it is a leaf.
use Rattle.std.proofs.Common.{◌-◌, ◌++◌, ◌∙◌, length, arith, sym, ap}
use Rattle.rkyv_btree_format.specs.Layout.{layout_of}
use Rattle.rkyv_btree_walk.specs.mirror.Path.{tree_rest}
use Rattle.rkyv_btree_walk.specs.Paths.{path_rest, walk_rest}
use Rattle.rkyv_btree_walk.proofs.Below.{put_below}
use Rattle.rkyv_btree_walk.proofs.Nodes.{tree_node, child_before}
use Rattle.rkyv_btree_walk.proofs.Paths.{put_short, put_path, put_leaf, put_absent, put_child, leaf_run}
use Rattle.rkyv_btree_walk.proofs.path.descend.Goals as goal

pub is_leaf-requires-clause-node : goal.is_leaf-requires-clause-node
is_leaf-requires-clause-node g c = tree_node _ _ _ _ _ c.down.at c.down.invariant.tree

pub leaf_count-requires-clause-node : goal.leaf_count-requires-clause-node
leaf_count-requires-clause-node g c = tree_node _ _ _ _ _ c.down.at c.down.invariant.tree

pub returns-then-is_leaf-clause-stands : goal.returns-then-is_leaf-clause-stands
returns-then-is_leaf-clause-stands g c =
    rw c.leaf_count.ensures (leaf_run _ _ _ _ c.down.at (tree_node _ _ _ _ _ c.down.at c.down.invariant.tree) (sym c.is_leaf.ensures ∙ c.if-is_leaf.true))

pub returns-then-is_leaf-clause-rest : goal.returns-then-is_leaf-clause-rest
returns-then-is_leaf-clause-rest g c =
    let leaf = sym c.is_leaf.ensures ∙ c.if-is_leaf.true in
    ap (λ n. walk_rest (layout_of g.K.Portable.kind g.V.Portable.kind g.M.ArchivedMap.E) c.args.buf.now c.down.at 0 n c.down.path.items) c.leaf_count.ensures
    ∙ put_leaf _ _ _ _ 32 c.down.at 0 c.down.path.items c.down.invariant.path c.down.invariant.tree leaf ∙ c.down.invariant.rest

pub push-requires : goal.push-requires
push-requires g c =
    let short = put_short _ _ _ _ 32 _ 0 c.down.path.items c.down.invariant.path c.down.invariant.tree in
    (omega arith, omega (arith, short))

pub child-requires-clause-node : goal.child-requires-clause-node
child-requires-clause-node g c = tree_node _ _ _ _ _ c.down.at c.down.invariant.tree

pub returns-in-None-clause-path : goal.returns-in-None-clause-path
returns-in-None-clause-path g c =
    let inner = sym c.is_leaf.ensures ∙ c.if-is_leaf.false in
    rw c.push.ensures.items (put_path _ _ _ _ 32 _ _ c.down.path.items c.down.invariant.path c.down.invariant.tree inner (omega arith))

pub returns-in-None-clause-rest : goal.returns-in-None-clause-rest
returns-in-None-clause-rest g c =
    let none = sym c.child.ensures ∙ c.in-None.is in
    rw c.push.ensures.items (put_absent _ _ _ _ 32 _ _ c.down.path.items c.down.invariant.path c.down.invariant.tree none ∙ c.down.invariant.rest)

pub returns-in-None-clause-below : goal.returns-in-None-clause-below
returns-in-None-clause-below g c root path node =
    let s = layout_of g.K.Portable.kind g.V.Portable.kind g.M.ArchivedMap.E in
    let inner = sym c.is_leaf.ensures ∙ c.if-is_leaf.false in
    let way = c.down.invariant.below root path node in
    let put = put_below s c.args.buf.now root c.down.at 0 c.down.path.items c.push.new.self.items c.push.ensures.items way.0 way.1 inner (omega arith) c.push.ensures.len in
    (λ less. absurd (omega arith), put.0)

pub down-smaller : goal.down-smaller
down-smaller g c =
    let node = tree_node _ _ _ _ _ c.down.at c.down.invariant.tree in
    child_before _ _ _ _ c.down.at node 0 c.in-Some.below (omega arith) (sym c.child.ensures ∙ c.in-Some.is)

pub down-preserved : goal.down-preserved
down-preserved g c =
    let K = g.K.Portable.kind in
    let V = g.V.Portable.kind in
    let E = g.M.ArchivedMap.E in
    let b = c.args.buf.now in
    let levels = 32 - length c.push.new.self.items in
    let inner = sym c.is_leaf.ensures ∙ c.if-is_leaf.false in
    let some = sym c.child.ensures ∙ c.in-Some.is in
    let below = put_child K V E b 32 _ 0 c.down.path.items c.down.invariant.path c.down.invariant.tree (omega arith) c.in-Some.below some levels (omega (arith, c.push.ensures.len)) in
    record {
      path = rw c.push.ensures.items (put_path K V E b 32 _ 0 c.down.path.items c.down.invariant.path c.down.invariant.tree inner (omega arith));
      tree = below.0;
      rest = ap (λ xs. tree_rest (layout_of K V E) b levels c.in-Some.below 0 ++ path_rest (layout_of K V E) b 32 xs) c.push.ensures.items ∙ below.1 ∙ c.down.invariant.rest;
      below = λ root path node.
          let way = c.down.invariant.below root path node in
          let put = put_below (layout_of K V E) b root c.down.at 0 c.down.path.items c.push.new.self.items c.push.ensures.items way.0 way.1 inner (omega arith) c.push.ensures.len in
          (put.0, put.1 c.in-Some.below some);
    }
