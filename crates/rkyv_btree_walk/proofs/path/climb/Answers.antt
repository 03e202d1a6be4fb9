-- A node is taken from the path, and put back with its next entry where it has one.
use Rattle.std.proofs.Common.{◌+◌, ◌-◌, ◌∷◌, ◌++◌, ◌∙◌, length, arith, sym, ap}
use Rattle.rkyv_btree_format.specs.Layout.{layout_of}
use Rattle.rkyv_btree_format.proofs.Sizes.{room_of}
use Rattle.rkyv_btree_walk.specs.mirror.Path.{tree_rest}
use Rattle.rkyv_btree_walk.specs.Paths.{path_rest}
use Rattle.rkyv_btree_walk.proofs.Below.{put_below, pop_below, run_inner}
use Rattle.rkyv_btree_walk.proofs.Paths.{pop_path, pop_tree, pop_node, pop_inner, pop_end, pop_more, put_path, put_absent, put_child, pop_run, pop_short}
use Rattle.rkyv_btree_walk.proofs.path.climb.Goals as goal

pub overflow_add-next : goal.overflow_add-next
overflow_add-next g c =
    let room = room_of _ _ _ g.met.K.Portable.laws g.met.V.Portable.laws c.requires.fitting in
    omega (arith, room.entries)

pub push-requires : goal.push-requires
push-requires g c =
    let short = pop_short _ _ _ _ 32 _ _ c.pop.new.self.items _ c.in-Some.ensures.items c.up.invariant.path in
    (omega arith, omega (arith, short))

pub child-requires-clause-node : goal.child-requires-clause-node
child-requires-clause-node g c =
    pop_node _ _ _ _ 32 _ c.in-Some.index c.pop.new.self.items _ c.in-Some.ensures.items c.up.invariant.path

pub child-requires-clause-inner : goal.child-requires-clause-inner
child-requires-clause-inner g c =
    pop_inner _ _ _ _ 32 _ c.in-Some.index c.pop.new.self.items _ c.in-Some.ensures.items c.up.invariant.path

pub descend-leaf-requires-clause-path : goal.descend-leaf-requires-clause-path
descend-leaf-requires-clause-path g c =
    let less = rw c.entries_per_node.ensures at c.if-index-entries_per_node.true in
    let path = pop_path _ _ _ _ 32 _ _ c.pop.new.self.items _ c.in-Some.ensures.items c.up.invariant.path in
    let tree = pop_tree _ _ _ _ 32 _ _ c.pop.new.self.items _ c.in-Some.ensures.items c.up.invariant.path in
    let inner = pop_inner _ _ _ _ 32 _ _ c.pop.new.self.items _ c.in-Some.ensures.items c.up.invariant.path in
    rw c.push.ensures.items (put_path _ _ _ _ 32 _ _ c.pop.new.self.items path tree inner (omega arith))

pub descend-leaf-requires-clause-tree : goal.descend-leaf-requires-clause-tree
descend-leaf-requires-clause-tree g c =
    let less = rw c.entries_per_node.ensures at c.if-index-entries_per_node.true in
    let path = pop_path _ _ _ _ 32 _ _ c.pop.new.self.items _ c.in-Some.ensures.items c.up.invariant.path in
    let tree = pop_tree _ _ _ _ 32 _ _ c.pop.new.self.items _ c.in-Some.ensures.items c.up.invariant.path in
    let some = sym c.child.ensures ∙ c.in-Some-child.is in
    (put_child _ _ _ _ 32 _ _ c.pop.new.self.items path tree (omega arith) c.in-Some-child.below some (32 - length c.push.new.self.items) (omega (arith, c.push.ensures.len))).0

pub returns-in-None-clause-path : goal.returns-in-None-clause-path
returns-in-None-clause-path g c =
    let less = rw c.entries_per_node.ensures at c.if-index-entries_per_node.true in
    let path = pop_path _ _ _ _ 32 _ _ c.pop.new.self.items _ c.in-Some.ensures.items c.up.invariant.path in
    let tree = pop_tree _ _ _ _ 32 _ _ c.pop.new.self.items _ c.in-Some.ensures.items c.up.invariant.path in
    let inner = pop_inner _ _ _ _ 32 _ _ c.pop.new.self.items _ c.in-Some.ensures.items c.up.invariant.path in
    rw c.push.ensures.items (put_path _ _ _ _ 32 _ _ c.pop.new.self.items path tree inner (omega arith))

pub returns-in-None-clause-entry : goal.returns-in-None-clause-entry
returns-in-None-clause-entry g c =
    let less = rw c.entries_per_node.ensures at c.if-index-entries_per_node.true in
    pop_run _ _ _ _ 32 _ c.in-Some.index c.pop.new.self.items _ c.in-Some.ensures.items c.up.invariant.path (omega arith)

pub returns-in-None-clause-rest : goal.returns-in-None-clause-rest
returns-in-None-clause-rest g c =
    let more = rw c.entries_per_node.ensures at c.if-index-entries_per_node.true in
    let path = pop_path _ _ _ _ 32 _ _ c.pop.new.self.items _ c.in-Some.ensures.items c.up.invariant.path in
    let tree = pop_tree _ _ _ _ 32 _ _ c.pop.new.self.items _ c.in-Some.ensures.items c.up.invariant.path in
    let left = pop_more _ _ _ _ 32 _ _ c.pop.new.self.items _ c.in-Some.ensures.items c.up.invariant.path (omega arith) in
    let none = sym c.child.ensures ∙ c.in-None.is in
    let put = put_absent _ _ _ _ 32 _ _ c.pop.new.self.items path tree none in
    c.up.invariant.rest ∙ left ∙ ap (λ xs. (c.in-Some.node, c.in-Some.index) ∷ xs) (sym (rw c.push.ensures.items put))

pub returns-in-None-clause-below : goal.returns-in-None-clause-below
returns-in-None-clause-below g c root path =
    let s = layout_of g.K.Portable.kind g.V.Portable.kind g.M.ArchivedMap.E in
    let b = c.args.buf.now in
    let i = c.in-Some.index in
    let more = rw c.entries_per_node.ensures at c.if-index-entries_per_node.true in
    let pop = pop_below s b root c.in-Some.node i c.pop.new.self.items _ c.in-Some.ensures.items (c.up.invariant.below root path) in
    let put = put_below s b root c.in-Some.node (i + 1) c.pop.new.self.items c.push.new.self.items c.push.ensures.items pop.0 pop.1 pop.2 (omega arith) c.push.ensures.len in
    let entry = run_inner s b root (length c.pop.new.self.items) c.in-Some.node i (i + 1) pop.1 pop.2 (omega arith) in
    (entry, (λ less. absurd (omega arith), put.0))

pub returns-in-Some-child-clause-entry : goal.returns-in-Some-child-clause-entry
returns-in-Some-child-clause-entry g c =
    let less = rw c.entries_per_node.ensures at c.if-index-entries_per_node.true in
    pop_run _ _ _ _ 32 _ c.in-Some.index c.pop.new.self.items _ c.in-Some.ensures.items c.up.invariant.path (omega arith)

pub returns-in-Some-child-clause-rest : goal.returns-in-Some-child-clause-rest
returns-in-Some-child-clause-rest g c =
    let s = layout_of g.K.Portable.kind g.V.Portable.kind g.M.ArchivedMap.E in
    let b = c.args.buf.now in
    let levels = 32 - length c.push.new.self.items in
    let more = rw c.entries_per_node.ensures at c.if-index-entries_per_node.true in
    let path = pop_path _ _ _ _ 32 _ _ c.pop.new.self.items _ c.in-Some.ensures.items c.up.invariant.path in
    let tree = pop_tree _ _ _ _ 32 _ _ c.pop.new.self.items _ c.in-Some.ensures.items c.up.invariant.path in
    let left = pop_more _ _ _ _ 32 _ _ c.pop.new.self.items _ c.in-Some.ensures.items c.up.invariant.path (omega arith) in
    let some = sym c.child.ensures ∙ c.in-Some-child.is in
    let put = (put_child _ _ _ _ 32 _ _ c.pop.new.self.items path tree (omega arith) c.in-Some-child.below some levels (omega (arith, c.push.ensures.len))).1 in
    let down = c.descend-leaf.ensures.rest ∙ ap (λ xs. tree_rest s b levels c.in-Some-child.below 0 ++ path_rest s b 32 xs) c.push.ensures.items ∙ put in
    c.up.invariant.rest ∙ left ∙ ap (λ xs. (c.in-Some.node, c.in-Some.index) ∷ xs) (sym down)

pub returns-in-Some-child-clause-below : goal.returns-in-Some-child-clause-below
returns-in-Some-child-clause-below g c root path =
    let s = layout_of g.K.Portable.kind g.V.Portable.kind g.M.ArchivedMap.E in
    let b = c.args.buf.now in
    let i = c.in-Some.index in
    let more = rw c.entries_per_node.ensures at c.if-index-entries_per_node.true in
    let pop = pop_below s b root c.in-Some.node i c.pop.new.self.items _ c.in-Some.ensures.items (c.up.invariant.below root path) in
    let put = put_below s b root c.in-Some.node (i + 1) c.pop.new.self.items c.push.new.self.items c.push.ensures.items pop.0 pop.1 pop.2 (omega arith) c.push.ensures.len in
    let entry = run_inner s b root (length c.pop.new.self.items) c.in-Some.node i (i + 1) pop.1 pop.2 (omega arith) in
    let down = c.descend-leaf.ensures.below root put.0 (put.1 c.in-Some-child.below (sym c.child.ensures ∙ c.in-Some-child.is)) in
    (entry, down)

pub up-preserved : goal.up-preserved
up-preserved g c =
    let none = rw c.entries_per_node.ensures at c.if-index-entries_per_node.false in
    record {
      path = pop_path _ _ _ _ 32 _ _ c.pop.new.self.items _ c.in-Some.ensures.items c.up.invariant.path;
      rest = c.up.invariant.rest ∙ pop_end _ _ _ _ 32 _ _ c.pop.new.self.items _ c.in-Some.ensures.items c.up.invariant.path none;
      below = λ root path.
          (pop_below (layout_of g.K.Portable.kind g.V.Portable.kind g.M.ArchivedMap.E) c.args.buf.now root c.in-Some.node c.in-Some.index c.pop.new.self.items _ c.in-Some.ensures.items (c.up.invariant.below root path)).0;
    }
