-- The way down: the search of the whole tree is what was asked so far and then the search of the tree at `node`.
use Rattle.std.proofs.Common.{◌≡◌, ℕ, ◌+◌, ◌*◌, ◌≤◌}
use Rattle.std.specs.declared.cmp.Ordering.{Ordering}
use Rattle.rkyv_btree_format.specs.Layout.{layout_of}
use Rattle.rkyv_btree_walk.specs.mirror.Node.{TreeStands}
use Rattle.rkyv_btree_walk.specs.Search.{shown_value}
use Rattle.rkyv_btree_walk.specs.mirror.Path.{tree_rest}
use Rattle.rkyv_btree_walk.specs.mirror.Search.{IsComparedBy, IsListed, comparison_at, searched}
use Rattle.rkyv_btree_walk.proofs.search.search_tree.Given as goal

abbrev pub invariant-down : goal.invariant-down
invariant-down g l =
    let K = g.K.Portable.kind in let V = g.V.Portable.kind in let E = g.M.ArchivedMap.E in
    (n : ℕ) × TreeStands K V E l.buf n l.node
    × (l.compared + E * n ≤ E * 32)
    × ((e : ℕ × ℕ) → IsListed e (tree_rest (layout_of K V E) l.buf n l.node 0) → IsListed e (tree_rest (layout_of K V E) l.buf 32 l.from 0))
    × ((c : g.row.Q.Denot → K.Value → Ordering)
    → IsComparedBy (goal.C-post g l.cmp) (shown_value K g.W.Shows) c
    → let comparison : ℕ × ℕ → Ordering = comparison_at K V E l.buf (c l.key) in
    let below = searched (layout_of K V E) l.buf comparison n l.node in
    searched (layout_of K V E) l.buf comparison 32 l.from ≡ (below.0, l.compared + below.1))

abbrev pub decreases-down : goal.decreases-down
decreases-down g l = l.node
