-- The keys so far reach the query from number `next` on.
use Rattle.std.proofs.Common.{ℕ, ◌≤◌, Bool}
use Rattle.std.specs.declared.cmp.Ordering.{Ordering}
use Rattle.rkyv_btree_walk.specs.Search.{ComparesBy, shown_value}
use Rattle.rkyv_btree_walk.specs.mirror.Range.{reached_at, IsFirst, Climbs}
use Rattle.rkyv_btree_walk.proofs.seek.count_node.Given as goal

abbrev pub invariant-loop-i : goal.invariant-loop-i
invariant-loop-i g l = record {
  low : l.from ≤ l.next;
  high : l.next ≤ l.i;
  first : (c : g.row.Q.Denot → g.K.Portable.kind.Value → Ordering) → ComparesBy (goal.C-post g l.cmp) (shown_value g.K.Portable.kind g.W.Shows) c
      → let test : ℕ → Bool = λ i. reached_at g.K.Portable.kind g.V.Portable.kind g.M.ArchivedMap.E l.buf l.past (c l.key) (l.node, i) in
      Climbs test l.from l.count → IsFirst test l.from l.i l.next;
}
