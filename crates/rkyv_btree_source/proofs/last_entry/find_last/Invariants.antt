-- The way down by last children: the last entry of all is that of the tree at `node`, or else the last one met.
use Rattle.std.proofs.Common.{◌≡◌, ◌+◌, ◌*◌, ◌≤◌, ◌<◌, ℕ, List, IfSome, length}
use Rattle.rkyv_btree_format.specs.Layout.{inner_size, layout_of, leaf_size}
use Rattle.rkyv_btree_source.proofs.Lasts.{IsGoingDown}
use Rattle.rkyv_btree_source.specs.Known.{AreOf}
use Rattle.rkyv_btree_unverified.specs.Steps.{HasRoom}
use Rattle.rkyv_btree_source.proofs.last_entry.find_last.Given as goal

abbrev pub invariant-down : goal.invariant-down
invariant-down g l =
    let K = g.K.Portable.kind in let V = g.V.Portable.kind in let E = g.M.ArchivedMap.E in
    record {
      levels : l.levels ≤ 32;
      room : HasRoom K V E l.end l.node;
      before : l.end ≤ l.pos;
      within : IfSome l.last (λ e. (e.1 < E) × (e.0 + leaf_size (layout_of K V E) ≤ l.pos));
      down : (b : List ℕ) → AreOf (g.S.ReadAt.known l.initial.reader.source) b → IsGoingDown K V E b l.pos l.levels l.end l.node l.last;
      same : g.S.ReadAt.known l.reader.source ≡ g.S.ReadAt.known l.initial.reader.source;
      left : l.reader.left ≤ l.initial.reader.left;
      spent : l.initial.reader.left + l.levels * inner_size (layout_of K V E) ≤ l.reader.left + 32 * inner_size (layout_of K V E);
      page : length l.page ≡ length l.initial.page;
    }

abbrev pub decreases-down : goal.decreases-down
decreases-down g l = l.levels
