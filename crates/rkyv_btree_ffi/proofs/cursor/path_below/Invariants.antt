use Rattle.std.proofs.Common.{◌≡◌, map, take, length, IfSome}
use Rattle.rkyv_btree_format.specs.Layout.{layout_of}
use Rattle.rkyv_btree_walk.specs.Below.{root_place, IsBelow, PathBelow}
use Rattle.rkyv_btree_ffi.specs.Cursors.{step_of}
use Rattle.rkyv_btree_ffi.proofs.cursor.path_below.Given as goal

-- the nodes so far are a path, and the node after it is below the root
abbrev pub invariant-down : goal.invariant-down
invariant-down g l =
    let s = layout_of g.K.Portable.kind g.V.Portable.kind 5 in
    record {
      count : length l.path.items ≡ l.level;
      path : l.path.items ≡ map step_of (take l.level l.cursor.path);
      below : PathBelow s l.buf (root_place l.buf l.pos) 0 l.path.items;
      led : IfSome l.led (λ q. IsBelow s l.buf (root_place l.buf l.pos) (length l.path.items) q);
    }
