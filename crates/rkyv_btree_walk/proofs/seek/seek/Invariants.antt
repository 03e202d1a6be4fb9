-- The way down: what was skipped fails, and what is left of the path passes, where the test rises along the list.
use Rattle.std.proofs.Common.{◌≡◌, ◌-◌, [], ◌++◌, length, List, ℕ, Bool, Some}
use Rattle.std.specs.Prelude.{filter}
use Rattle.std.specs.declared.cmp.Ordering.{Ordering}
use Rattle.rkyv_btree_format.specs.Layout.{layout_of}
use Rattle.rkyv_btree_walk.specs.Search.{ComparesBy, shown_value}
use Rattle.rkyv_btree_walk.specs.Below.{IsBelow, PathBelow}
use Rattle.rkyv_btree_walk.specs.mirror.Node.{TreeStands}
use Rattle.rkyv_btree_walk.specs.mirror.Path.{tree_rest, IsPath}
use Rattle.rkyv_btree_walk.specs.Paths.{path_rest}
use Rattle.rkyv_btree_walk.specs.mirror.Range.{reached_at, AllPass, Rises}
use Rattle.rkyv_btree_walk.proofs.seek.seek.Given as goal

abbrev pub invariant-down : goal.invariant-down
invariant-down g l =
    let K = g.K.Portable.kind in let V = g.V.Portable.kind in let E = g.M.ArchivedMap.E in
    record {
      path : IsPath K V E l.buf 32 l.path.items;
      tree : TreeStands K V E l.buf (32 - length l.path.items) l.node;
      skipped : List (ℕ × ℕ);
      run : tree_rest (layout_of K V E) l.buf 32 l.root 0 ≡ skipped ++ (tree_rest (layout_of K V E) l.buf (32 - length l.path.items) l.node 0 ++ path_rest (layout_of K V E) l.buf 32 l.path.items);
      from : (c : g.row.Q.Denot → K.Value → Ordering) → ComparesBy (goal.C-post g l.cmp) (shown_value K g.W.Shows) c
          → let test : ℕ × ℕ → Bool = reached_at K V E l.buf l.past (c l.key) in
          Rises test (tree_rest (layout_of K V E) l.buf 32 l.root 0)
          → (filter test skipped ≡ []) × AllPass test (path_rest (layout_of K V E) l.buf 32 l.path.items);
      below : PathBelow (layout_of K V E) l.buf (Some l.root) 0 l.path.items × IsBelow (layout_of K V E) l.buf (Some l.root) (length l.path.items) l.node;
    }

abbrev pub decreases-down : goal.decreases-down
decreases-down g l = l.node
