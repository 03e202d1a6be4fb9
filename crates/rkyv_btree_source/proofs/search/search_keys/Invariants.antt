-- The keys before the next one gave Greater, and the source is the same.
use Rattle.std.proofs.Common.{◌≡◌, ℕ, ◌+◌, ◌*◌, ◌<◌, ◌≤◌, length, List}
use Rattle.std.specs.declared.cmp.Ordering.{Ordering}
use Rattle.std.specs.declared.cmp.Ordering.TheVariants.{Greater}
use Rattle.rkyv_btree_unverified.specs.Steps.{key_place, Gives}
use Rattle.rkyv_btree_source.specs.Reads.{keys_len}
use Rattle.rkyv_btree_source.specs.Known.{AreOf}
use Rattle.rkyv_btree_source.proofs.search.search_keys.Given as goal

abbrev pub invariant-loop-i : goal.invariant-loop-i
invariant-loop-i g l =
    record {
      before : (b : List ℕ) → AreOf (g.S.ReadAt.known l.initial.reader.source) b → (f : g.row.T.Denot → g.K.Portable.kind.Value → Ordering)
          → ((n : g.row.T.Denot) (c : List ℕ) (at : ℕ) → g.K.CompareWith.compared_at n c at ≡ f n (g.K.Portable.kind.read c at))
          → (k : ℕ) → k < l.i → Gives g.K.Portable.kind g.V.Portable.kind g.M.ArchivedMap.E b (f l.key) Greater (l.node, k);
      same : g.S.ReadAt.known l.reader.source ≡ g.S.ReadAt.known l.initial.reader.source;
      left : l.reader.left ≤ l.initial.reader.left;
      spent : l.initial.reader.left ≤ l.reader.left + l.i * (l.node + length l.bytes);
      takes : (b : List ℕ) → AreOf (g.S.ReadAt.known l.initial.reader.source) b
          → l.initial.reader.left ≡ l.reader.left + keys_len g.K.Portable.kind g.V.Portable.kind g.M.ArchivedMap.E b g.K.Fetch.lengths g.V.Fetch.lengths l.node l.i;
      fits : (b : List ℕ) → AreOf (g.S.ReadAt.known l.initial.reader.source) b
          → (k : ℕ) → k < l.i → g.K.Fetch.lengths.room b (key_place g.K.Portable.kind g.V.Portable.kind g.M.ArchivedMap.E (l.node, k)) ≤ length l.initial.room;
    }
