-- The keys so far are valid, and stop the search before the next one, or the search goes on.
use Rattle.std.proofs.Common.{◌≡◌, ℕ, ◌<◌, IsTrue, true, false}
use Rattle.std.specs.declared.cmp.Ordering.{Ordering}
use Rattle.rkyv_btree_portable.specs.Views.{stands}
use Rattle.rkyv_btree_walk.specs.Search.{shown_value}
use Rattle.rkyv_btree_walk.specs.mirror.Search.{IsComparedBy, comparison_at, StopsSoFar}
use Rattle.rkyv_btree_unverified.specs.Steps.{key_place}
use Rattle.rkyv_btree_unverified.proofs.search.search_keys_at_once.Given as goal

abbrev pub invariant-loop-number : goal.invariant-loop-number
invariant-loop-number g l = record {
  goes_on : l.past ≡ true → l.next ≡ l.number;
  stopped : l.past ≡ false → l.next < l.number;
  stops : (c : g.row.Q.Denot → g.K.Portable.kind.Value → Ordering) → IsComparedBy (goal.C-post g l.cmp) (shown_value g.K.Portable.kind g.W.Shows) c
      → StopsSoFar (λ i. comparison_at g.K.Portable.kind g.V.Portable.kind g.M.ArchivedMap.E l.buf (c l.key) (l.node, i)) l.number l.past l.equal l.next;
  valid : (k : ℕ) → k < l.number → IsTrue (stands g.K.Portable.kind l.buf (key_place g.K.Portable.kind g.V.Portable.kind g.M.ArchivedMap.E (l.node, k)));
  uncounted : l.steps ≡ l.initial.steps;
}
