-- What is written, and what is to come, are all entries.
use Rattle.std.proofs.Common.{◌≡◌, ◌++◌, ℕ, List}
use Rattle.rkyv_btree_source.specs.Known.{AreOf}
use Rattle.rkyv_btree_source.specs.SourceRange.{source_left, source_of, turns_left}
use Rattle.btreekv_commands.specs.Forms.{text_in}
use Rattle.btreekv_types.specs.Typed.{ByValues, items_by, spelled}
use Rattle.btreekv_types.proofs.ranged.push_all.Given as goal

abbrev pub invariant-more : goal.invariant-more
invariant-more g l =
    record {
      same : g.S.ReadAt.known (source_of l.entries).reader.source ≡ g.S.ReadAt.known (source_of l.initial.entries).reader.source;
      position : (source_of l.entries).pos ≡ (source_of l.initial.entries).pos;
      writes : (b : List ℕ) → AreOf (g.S.ReadAt.known (source_of l.initial.entries).reader.source) b
          → ByValues g.K.Native.Archive.archival g.K.Portable.kind g.K.Item.order g.K.Item.value_at g.K.Item.native_value g.V.Native.Archive.archival g.V.Portable.kind g.V.Item.order g.V.Item.value_at g.V.Item.native_value (λ key_to value_to.
          l.out.items ++ text_in l.form (spelled (items_by g.K.Item.IsValue (g.K.Item.spelling l.style) key_to) (items_by g.V.Item.IsValue (g.V.Item.spelling l.style) value_to) (source_left b (λ s b at. g.K.Item.order (g.K.Item.native_value s.native) (g.K.Item.value_at b at)) (λ s. s.0) (λ s. s.1) l.entries))
          ≡ l.initial.out.items ++ text_in l.form (spelled (items_by g.K.Item.IsValue (g.K.Item.spelling l.style) key_to) (items_by g.V.Item.IsValue (g.V.Item.spelling l.style) value_to) (source_left b (λ s b at. g.K.Item.order (g.K.Item.native_value s.native) (g.K.Item.value_at b at)) (λ s. s.0) (λ s. s.1) l.initial.entries)));
    }

abbrev pub decreases-more : goal.decreases-more
decreases-more g l = turns_left l.entries
