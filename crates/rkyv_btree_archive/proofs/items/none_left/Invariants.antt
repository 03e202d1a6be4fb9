use Rattle.std.proofs.Common.{◌≡◌, ◌+◌, ◌≤◌, List, length}
use Rattle.std.specs.Iterator.{Yields, IsFinite, size}
use Rattle.rkyv_btree_archive.specs.mirror.Source.{Gives, key_of}
use Rattle.rkyv_btree_archive.proofs.items.none_left.Given as goal

abbrev pub invariant-loop-item : goal.invariant-loop-item
invariant-loop-item g l = record {
  given : (taken : List (g.row.B.Denot × g.row.C.Denot)) × Yields (Gives g.I.Iterator.next_gives g.L.Look.passes g.L.Look.stops) (l.fn.source, key_of l.fn.last) taken (l.source, key_of l.last) × (l.more ≡ length taken);
  can : g.I.Iterator.can_next l.source.items;
  ends : IsFinite (g.I.Iterator.remaining l.source.items);
  left : size (g.I.Iterator.remaining l.source.items) + l.more ≤ size (g.I.Iterator.remaining l.fn.source.items);
}

abbrev pub decreases-loop-item : goal.decreases-loop-item
decreases-loop-item g l = size (g.I.Iterator.remaining l.source.items)
