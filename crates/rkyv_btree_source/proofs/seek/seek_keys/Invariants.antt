-- The keys before the next one don't reach the query, and the source is the same.
use Rattle.std.proofs.Common.{◌≡◌, ◌<◌, ◌≤◌, ℕ, List, length, false}
use Rattle.rkyv_btree_source.specs.Known.{AreOf}
use Rattle.rkyv_btree_unverified.specs.mirror.Sought.{reached_place}
use Rattle.rkyv_btree_source.proofs.seek.seek_keys.Given as goal

abbrev pub invariant-loop-i : goal.invariant-loop-i
invariant-loop-i g l =
    record {
      before : (b : List ℕ) → AreOf (g.S.ReadAt.known l.initial.reader.source) b
          → (k : ℕ) → 0 ≤ k → k < l.i → reached_place g.K.Portable.kind g.V.Portable.kind g.M.ArchivedMap.E g.K.CompareWith.compared_at b l.key l.past (l.node, k) ≡ false;
      same : g.S.ReadAt.known l.reader.source ≡ g.S.ReadAt.known l.initial.reader.source;
      left : l.reader.left ≤ l.initial.reader.left;
      room : length l.room ≡ length l.initial.room;
    }
