-- The way down: no entry is lost of what is left, and each child stands before its node.
use Rattle.std.proofs.Common.{◌≡◌, ℕ, ◌-◌, ◌++◌, length, Option}
use Rattle.rkyv_btree_format.specs.Layout.{layout_of}
use Rattle.rkyv_btree_walk.specs.Below.{IsBelow, PathBelow}
use Rattle.rkyv_btree_walk.specs.mirror.Node.{TreeStands}
use Rattle.rkyv_btree_walk.specs.mirror.Path.{tree_rest, IsPath}
use Rattle.rkyv_btree_walk.specs.Paths.{path_rest}
use Rattle.rkyv_btree_walk.proofs.path.descend.Given as goal

-- what is left of the tree at `at` and of the path is what was left of the whole tree and the first path
abbrev pub invariant-down : goal.invariant-down
invariant-down g l =
    let K = g.K.Portable.kind in let V = g.V.Portable.kind in let E = g.M.ArchivedMap.E in
    record {
      path : IsPath K V E l.buf 32 l.path.items;
      tree : TreeStands K V E l.buf (32 - length l.path.items) l.at;
      rest : tree_rest (layout_of K V E) l.buf (32 - length l.path.items) l.at 0 ++ path_rest (layout_of K V E) l.buf 32 l.path.items
          ≡ tree_rest (layout_of K V E) l.buf (32 - length l.fn.path.items) l.node 0 ++ path_rest (layout_of K V E) l.buf 32 l.fn.path.items;
      below : (root : Option ℕ) → PathBelow (layout_of K V E) l.buf root 0 l.fn.path.items → IsBelow (layout_of K V E) l.buf root (length l.fn.path.items) l.node
          → PathBelow (layout_of K V E) l.buf root 0 l.path.items × IsBelow (layout_of K V E) l.buf root (length l.path.items) l.at;
    }

abbrev pub decreases-down : goal.decreases-down
decreases-down g l = l.at
