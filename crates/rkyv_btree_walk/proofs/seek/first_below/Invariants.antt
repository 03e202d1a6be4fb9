-- The way down: the first entry of the whole tree, or else the other one, is that of the tree at `node`, or else `stop`.
use Rattle.std.proofs.Common.{◌≡◌, ℕ, Bool}
use Rattle.std.specs.declared.cmp.Ordering.{Ordering}
use Rattle.rkyv_btree_format.specs.Layout.{layout_of}
use Rattle.rkyv_btree_walk.specs.Search.{ComparesBy, shown_value}
use Rattle.rkyv_btree_walk.specs.mirror.Node.{TreeStands}
use Rattle.rkyv_btree_walk.specs.mirror.Path.{tree_rest}
use Rattle.rkyv_btree_walk.specs.mirror.Range.{reached_at, Rises}
use Rattle.rkyv_btree_walk.proofs.Stops.{first_or}
use Rattle.rkyv_btree_walk.proofs.seek.first_below.Given as goal

abbrev pub invariant-down : goal.invariant-down
invariant-down g l =
    let K = g.K.Portable.kind in let V = g.V.Portable.kind in let E = g.M.ArchivedMap.E in
    record {
      tree : (m : ℕ) × TreeStands K V E l.buf m l.node;
      found : (levels : ℕ) → TreeStands K V E l.buf levels l.top → (m : ℕ) × TreeStands K V E l.buf m l.node
          × ((c : g.row.Q.Denot → K.Value → Ordering) → ComparesBy (goal.C-post g l.cmp) (shown_value K g.W.Shows) c
          → let test : ℕ × ℕ → Bool = reached_at K V E l.buf l.past (c l.key) in
          Rises test (tree_rest (layout_of K V E) l.buf levels l.top 0)
          → Rises test (tree_rest (layout_of K V E) l.buf m l.node 0)
          × (first_or test (tree_rest (layout_of K V E) l.buf m l.node 0) l.stop ≡ first_or test (tree_rest (layout_of K V E) l.buf levels l.top 0) l.fn.other));
    }

abbrev pub decreases-down : goal.decreases-down
decreases-down g l = l.node
