-- The way up, past nodes with no entry left: as much is left as at the start.
use Rattle.std.proofs.Common.{◌≡◌, length}
use Rattle.rkyv_btree_format.specs.Layout.{layout_of}
use Rattle.rkyv_btree_walk.specs.mirror.Below.{PathStaysBelow}
use Rattle.rkyv_btree_walk.specs.Paths.{path_rest}
use Rattle.rkyv_btree_walk.specs.mirror.Path.{IsPath}
use Rattle.rkyv_btree_walk.proofs.range_ends.first_left.Given as goal

abbrev pub invariant-up : goal.invariant-up
invariant-up g l =
    let K = g.K.Portable.kind in let V = g.V.Portable.kind in let E = g.M.ArchivedMap.E in
    record {
      path : IsPath K V E l._buf 32 l.path.items;
      rest : path_rest (layout_of K V E) l._buf 32 l.path.items ≡ path_rest (layout_of K V E) l._buf 32 l.fn.path.items;
      below : PathStaysBelow (layout_of K V E) l._buf l.fn.path.items l.path.items;
    }

abbrev pub decreases-up : goal.decreases-up
decreases-up g l = length l.path.items
