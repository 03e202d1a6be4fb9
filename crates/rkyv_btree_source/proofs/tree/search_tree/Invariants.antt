-- The way down: what the search of the tree that is left returns, the whole search does.
use Rattle.std.proofs.Common.{◌≡◌, ℕ, ◌+◌, ◌*◌, ◌≤◌, List, length}
use Rattle.std.specs.Prelude.{Option, Result}
use Rattle.std.specs.declared.cmp.Ordering.{Ordering}
use Rattle.rkyv_btree_portable.specs.declared.refusal.Refusal.{Refusal}
use Rattle.rkyv_btree_source.specs.Reads.{NodeBytes, Reads}
use Rattle.rkyv_btree_source.specs.mirror.Found.{FromFits}
use Rattle.rkyv_btree_unverified.specs.Lookups.{TreeGives}
use Rattle.rkyv_btree_unverified.specs.Steps.{HasRoom}
use Rattle.rkyv_btree_source.specs.Known.{AreOf}
use Rattle.rkyv_btree_source.proofs.tree.search_tree.Given as goal

abbrev pub invariant-down : goal.invariant-down
invariant-down g l =
    let K = g.K.Portable.kind in let V = g.V.Portable.kind in let E = g.M.ArchivedMap.E in
    record {
      levels : l.levels ≤ 32;
      room : HasRoom K V E l.end l.node;
      inside : (b : List ℕ) → AreOf (g.S.ReadAt.known l.initial.reader.source) b → (length b ≤ 4294967295) × (l.end ≤ length b);
      ends : l.end ≤ l.hi;
      gives : (b : List ℕ) → AreOf (g.S.ReadAt.known l.initial.reader.source) b → (f : g.row.T.Denot → K.Value → Ordering)
          → ((n : g.row.T.Denot) (c : List ℕ) (at : ℕ) → g.K.CompareWith.compared_at n c at ≡ f n (K.read c at))
          → (r : Result (Option (ℕ × ℕ)) Refusal) → TreeGives K V E b (f l.key) g.K.CheckBytes.Refuses g.V.CheckBytes.Refuses l.levels l.end l.node r
          → TreeGives K V E b (f l.key) g.K.CheckBytes.Refuses g.V.CheckBytes.Refuses 32 l.hi l.root r;
      reads : (b : List ℕ) → AreOf (g.S.ReadAt.known l.initial.reader.source) b → (f : g.row.T.Denot → K.Value → Ordering)
          → ((n : g.row.T.Denot) (c : List ℕ) (at : ℕ) → g.K.CompareWith.compared_at n c at ≡ f n (K.read c at))
          → (at before : ℕ) → Reads K V E b g.K.Fetch.lengths g.V.Fetch.lengths (f l.key) at before (NodeBytes l.hi l.root)
          → (now : ℕ) × Reads K V E b g.K.Fetch.lengths g.V.Fetch.lengths (f l.key) at now (NodeBytes l.end l.node) × (before + l.initial.reader.left ≡ now + l.reader.left);
      fits : (b : List ℕ) → AreOf (g.S.ReadAt.known l.initial.reader.source) b → (f : g.row.T.Denot → K.Value → Ordering)
          → ((n : g.row.T.Denot) (c : List ℕ) (at : ℕ) → g.K.CompareWith.compared_at n c at ≡ f n (K.read c at))
          → FromFits K V E b g.K.Fetch.lengths g.V.Fetch.lengths (f l.key) l.end l.node (length l.initial.room)
          → FromFits K V E b g.K.Fetch.lengths g.V.Fetch.lengths (f l.key) l.hi l.root (length l.initial.room);
      same : g.S.ReadAt.known l.reader.source ≡ g.S.ReadAt.known l.initial.reader.source;
      left : l.reader.left ≤ l.initial.reader.left;
      spent : l.initial.reader.left + l.levels * ((E + 2) * l.hi) ≤ l.reader.left + 32 * ((E + 2) * l.hi);
    }

abbrev pub decreases-down : goal.decreases-down
decreases-down g l = l.levels
