-- The entries that are left stay the same while the buffer grows, and so does what was written.
use Rattle.std.proofs.Common.{◌≡◌, ◌≤◌, ◌-◌, ℕ, List, length}
use Rattle.rkyv_btree_source.specs.Known.{AreOf}
use Rattle.rkyv_btree_source.specs.SourceRange.{source_left, source_of, turns_left}
use Rattle.btreekv_types.proofs.ranged.push_next.Given as goal

abbrev pub invariant-longer : goal.invariant-longer
invariant-longer g l =
    record {
      same : g.S.ReadAt.known (source_of l.entries).reader.source ≡ g.S.ReadAt.known (source_of l.initial.entries).reader.source;
      position : (source_of l.entries).pos ≡ (source_of l.initial.entries).pos;
      left : (b : List ℕ) → AreOf (g.S.ReadAt.known (source_of l.initial.entries).reader.source) b
          → source_left b (λ s b at. g.K.Item.order (g.K.Item.native_value s.native) (g.K.Item.value_at b at)) (λ s. s.0) (λ s. s.1) l.entries ≡ source_left b (λ s b at. g.K.Item.order (g.K.Item.native_value s.native) (g.K.Item.value_at b at)) (λ s. s.0) (λ s. s.1) l.initial.entries;
      turns : turns_left l.entries ≤ turns_left l.initial.entries;
      out : l.out.items ≡ l.initial.out.items;
    }

abbrev pub decreases-longer : goal.decreases-longer
decreases-longer g l = 4294967295 - length l.room.items
