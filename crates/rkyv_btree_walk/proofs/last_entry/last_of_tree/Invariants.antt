-- The way down: the last entry of the tree is that of the tree at `node`, or else the last one met.
use Rattle.std.proofs.Common.{◌≡◌, ℕ, ◌+◌, IfSome, None}
use Rattle.std.specs.List.{last_or}
use Rattle.std.specs.Option.{option_map}
use Rattle.rkyv_btree_format.specs.Layout.{layout_of}
use Rattle.rkyv_btree_walk.specs.EntryPlaces.{place_of}
use Rattle.rkyv_btree_walk.specs.mirror.Node.{RunStands, TreeStands}
use Rattle.rkyv_btree_walk.specs.mirror.Path.{tree_rest}
use Rattle.rkyv_btree_walk.proofs.last_entry.last_of_tree.Given as goal

abbrev pub invariant-down : goal.invariant-down
invariant-down g l =
    let K = g.K.Portable.kind in let V = g.V.Portable.kind in let E = g.M.ArchivedMap.E in
    record {
      levels : ℕ;
      tree : TreeStands K V E l.buf levels l.node;
      stands : IfSome l.last (λ place. RunStands K V E l.buf place.node place.index (place.index + 1));
      last : last_or None (tree_rest (layout_of K V E) l.buf 32 l.from 0) ≡ last_or (option_map place_of l.last) (tree_rest (layout_of K V E) l.buf levels l.node 0);
    }

abbrev pub decreases-down : goal.decreases-down
decreases-down g l = l.node
