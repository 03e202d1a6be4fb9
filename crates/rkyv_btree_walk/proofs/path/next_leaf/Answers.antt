-- The last node is put back with its next entry, and the leaf after it is its next child; or it is put back as it was.
use Rattle.std.proofs.Common.{◌+◌, ◌-◌, ◌<◌, ◌∷◌, ◌++◌, ◌∙◌, length, refl, arith, sym, ap}
use Rattle.rkyv_btree_format.specs.Layout.{layout_of}
use Rattle.rkyv_btree_format.proofs.Sizes.{room_of}
use Rattle.rkyv_btree_walk.specs.mirror.Path.{tree_rest, IsPath}
use Rattle.rkyv_btree_walk.specs.Paths.{path_rest, walk_rest}
use Rattle.rkyv_btree_walk.proofs.Below.{put_below, pop_below, run_inner}
use Rattle.rkyv_btree_walk.proofs.Nodes.{tree_child_node}
use Rattle.rkyv_btree_walk.proofs.Paths.{pop_path, pop_tree, pop_inner, pop_more, put_path, put_leaf, put_child, pop_run, pop_short, leaf_run}
use Rattle.rkyv_btree_walk.proofs.path.next_leaf.Goals as goal

pub leaf_after-leaf-requires-clause-tree : goal.leaf_after-leaf-requires-clause-tree
leaf_after-leaf-requires-clause-tree g c =
    (32 - length c.pop.new.self.items, pop_tree _ _ _ _ 32 _ _ c.pop.new.self.items _ c.in-Some.ensures.items c.requires.path)

pub leaf_after-leaf-requires-clause-inner : goal.leaf_after-leaf-requires-clause-inner
leaf_after-leaf-requires-clause-inner g c = pop_inner _ _ _ _ 32 _ _ c.pop.new.self.items _ c.in-Some.ensures.items c.requires.path

pub push-requires : goal.push-requires
push-requires g c =
    let short = pop_short _ _ _ _ 32 _ _ c.pop.new.self.items _ c.in-Some.ensures.items c.requires.path in
    (omega arith, omega (arith, short))

pub overflow_add-index : goal.overflow_add-index
overflow_add-index g c =
    let room = room_of _ _ _ g.met.K.Portable.laws g.met.V.Portable.laws c.requires.fitting in
    let less : c.in-Some.index < g.M.ArchivedMap.E = c.in-Some-leaf.ensures.within refl in
    omega (arith, room.entries)

pub push-requires-in-Some-leaf : goal.push-requires-in-Some-leaf
push-requires-in-Some-leaf g c =
    let short = pop_short _ _ _ _ 32 _ _ c.pop.new.self.items _ c.in-Some.ensures.items c.requires.path in
    (omega arith, omega (arith, short))

pub returns-in-Some-leaf-clause-path : goal.returns-in-Some-leaf-clause-path
returns-in-Some-leaf-clause-path g c =
    let less : c.in-Some.index < g.M.ArchivedMap.E = c.in-Some-leaf.ensures.within refl in
    let path = pop_path _ _ _ _ 32 _ _ c.pop.new.self.items _ c.in-Some.ensures.items c.requires.path in
    let tree = pop_tree _ _ _ _ 32 _ _ c.pop.new.self.items _ c.in-Some.ensures.items c.requires.path in
    let inner = pop_inner _ _ _ _ 32 _ _ c.pop.new.self.items _ c.in-Some.ensures.items c.requires.path in
    rw c.push-in-Some-leaf.ensures.items (put_path _ _ _ _ 32 _ _ c.pop.new.self.items path tree inner (omega arith))

pub returns-in-Some-leaf-clause-entry : goal.returns-in-Some-leaf-clause-entry
returns-in-Some-leaf-clause-entry g c =
    pop_run _ _ _ _ 32 _ c.in-Some.index c.pop.new.self.items _ c.in-Some.ensures.items c.requires.path (c.in-Some-leaf.ensures.within refl)

pub returns-in-Some-leaf-clause-leaf : goal.returns-in-Some-leaf-clause-leaf
returns-in-Some-leaf-clause-leaf g c =
    let less : c.in-Some.index < g.M.ArchivedMap.E = c.in-Some-leaf.ensures.within refl in
    let tree = pop_tree _ _ _ _ 32 _ _ c.pop.new.self.items _ c.in-Some.ensures.items c.requires.path in
    let node = tree_child_node _ _ _ _ _ c.in-Some.node tree (c.in-Some.index + 1) c.in-Some-leaf.leaf.node (omega arith) c.in-Some-leaf.ensures.child in
    rw c.in-Some-leaf.ensures.count (leaf_run _ _ _ _ c.in-Some-leaf.leaf.node node c.in-Some-leaf.ensures.leaf)

pub returns-in-Some-leaf-clause-rest : goal.returns-in-Some-leaf-clause-rest
returns-in-Some-leaf-clause-rest g c =
    let s = layout_of g.K.Portable.kind g.V.Portable.kind g.M.ArchivedMap.E in
    let b = c.args.buf.now in
    let fs = c.push-in-Some-leaf.new.self.items in
    let levels = 32 - length fs in
    let q = c.in-Some-leaf.leaf.node in
    let less : c.in-Some.index < g.M.ArchivedMap.E = c.in-Some-leaf.ensures.within refl in
    let path = pop_path _ _ _ _ 32 _ _ c.pop.new.self.items _ c.in-Some.ensures.items c.requires.path in
    let tree = pop_tree _ _ _ _ 32 _ _ c.pop.new.self.items _ c.in-Some.ensures.items c.requires.path in
    let inner = pop_inner _ _ _ _ 32 _ _ c.pop.new.self.items _ c.in-Some.ensures.items c.requires.path in
    let left = pop_more _ _ _ _ 32 _ _ c.pop.new.self.items _ c.in-Some.ensures.items c.requires.path less in
    let whole : IsPath g.K.Portable.kind g.V.Portable.kind g.M.ArchivedMap.E b 32 fs = rw c.push-in-Some-leaf.ensures.items (put_path _ _ _ _ 32 _ (c.in-Some.index + 1) c.pop.new.self.items path tree inner (omega arith)) in
    let put = put_child _ _ _ _ 32 _ (c.in-Some.index + 1) c.pop.new.self.items path tree (omega arith) q c.in-Some-leaf.ensures.child levels (omega (arith, c.push-in-Some-leaf.ensures.len)) in
    let leaf = put_leaf _ _ _ _ 32 q 0 fs whole put.0 c.in-Some-leaf.ensures.leaf in
    let down = ap (λ n. walk_rest s b q 0 n fs) c.in-Some-leaf.ensures.count ∙ leaf ∙ ap (λ xs. tree_rest s b levels q 0 ++ path_rest s b 32 xs) c.push-in-Some-leaf.ensures.items ∙ put.1 in
    left ∙ ap (λ xs. (c.in-Some.node, c.in-Some.index) ∷ xs) (sym down)

pub returns-in-Some-leaf-clause-below : goal.returns-in-Some-leaf-clause-below
returns-in-Some-leaf-clause-below g c root path =
    let s = layout_of g.K.Portable.kind g.V.Portable.kind g.M.ArchivedMap.E in
    let b = c.args.buf.now in
    let i = c.in-Some.index in
    let less : i < g.M.ArchivedMap.E = c.in-Some-leaf.ensures.within refl in
    let pop = pop_below s b root c.in-Some.node i c.pop.new.self.items _ c.in-Some.ensures.items path in
    let put = put_below s b root c.in-Some.node (i + 1) c.pop.new.self.items c.push-in-Some-leaf.new.self.items c.push-in-Some-leaf.ensures.items pop.0 pop.1 pop.2 (omega arith) c.push-in-Some-leaf.ensures.len in
    let entry = run_inner s b root (length c.pop.new.self.items) c.in-Some.node i (i + 1) pop.1 pop.2 (omega arith) in
    let below = put.1 c.in-Some-leaf.leaf.node c.in-Some-leaf.ensures.child in
    (entry, ((λ some. (length c.push-in-Some-leaf.new.self.items, below, rw c.in-Some-leaf.ensures.leaf (omega (arith, c.in-Some-leaf.ensures.count)))), put.0))
