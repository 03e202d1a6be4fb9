use Rattle.std.proofs.Common.{◌≡◌, ◌≤◌, ◌-◌, length, take}
use Rattle.rkyv_btree_ffi.specs.Batches.{AreShown}
use Rattle.rkyv_btree_format.specs.Layout.{layout_of}
use Rattle.rkyv_btree_walk.specs.WalkBetween.{range_left, IsRangeWalk}
use Rattle.rkyv_btree_ffi.proofs.reading.fill.Given as goal

-- the entries so far show the first places that were left
abbrev pub invariant-entries : goal.invariant-entries
invariant-entries g l =
    let K = g.K.Portable.kind in let V = g.V.Portable.kind in
    record {
      walks : IsRangeWalk (layout_of K V 5) l.buf l.pos l.walk;
      room : l.written ≤ length l.out;
      size : length l.out ≡ length l.fn.out;
      shown : AreShown K V g.K.Shown.ShowsAt g.V.Shown.ShowsAt l.buf (range_left (layout_of K V 5) l.buf l.fn.walk) (take l.written l.out) (range_left (layout_of K V 5) l.buf l.walk);
    }

abbrev pub decreases-entries : goal.decreases-entries
decreases-entries g l = length l.out - l.written
