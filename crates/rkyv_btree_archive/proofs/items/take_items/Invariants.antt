use Rattle.std.proofs.Common.{◌+◌, ◌-◌, ◌≤◌, length, vec_capacity}
use Rattle.std.specs.Iterator.{Yields, IsFinite, size}
use Rattle.std.specs.Option.{option_copied}
use Rattle.rkyv_btree_archive.specs.mirror.Source.{Gives, key_before}
use Rattle.rkyv_btree_archive.proofs.items.take_items.Given as goal

abbrev pub invariant-loop-source : goal.invariant-loop-source
invariant-loop-source g l = record {
  given : Yields (Gives g.I.Iterator.next_gives g.L.Look.passes g.L.Look.stops) (l.fn.source, option_copied l.before) l.items.items (l.source, key_before (option_copied l.before) l.items.items);
  can : g.I.Iterator.can_next l.source.items;
  ends : IsFinite (g.I.Iterator.remaining l.source.items);
  left : size (g.I.Iterator.remaining l.source.items) + length l.items.items ≤ size (g.I.Iterator.remaining l.fn.source.items);
  few : length l.items.items ≤ l.count;
  room : l.count ≤ vec_capacity l.items;
  capacity : vec_capacity l.fn.items ≤ vec_capacity l.items;
}

abbrev pub decreases-loop-source : goal.decreases-loop-source
decreases-loop-source g l = l.count - length l.items.items
