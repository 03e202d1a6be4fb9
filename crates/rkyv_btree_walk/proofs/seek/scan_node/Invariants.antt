-- No key before the next one reaches the query.
use Rattle.std.proofs.Common.{◌≡◌, ℕ, ◌≤◌, ◌<◌, false}
use Rattle.std.specs.declared.cmp.Ordering.{Ordering}
use Rattle.rkyv_btree_walk.specs.Search.{ComparesBy, shown_value}
use Rattle.rkyv_btree_walk.specs.mirror.Range.{reached_at}
use Rattle.rkyv_btree_walk.proofs.seek.scan_node.Given as goal

abbrev pub invariant-loop-i : goal.invariant-loop-i
invariant-loop-i g l = (c : g.row.Q.Denot → g.K.Portable.kind.Value → Ordering)
    → ComparesBy (goal.C-post g l.cmp) (shown_value g.K.Portable.kind g.W.Shows) c
    → (k : ℕ) → l.from ≤ k → k < l.i → reached_at g.K.Portable.kind g.V.Portable.kind g.M.ArchivedMap.E l.buf l.past (c l.key) (l.node, k) ≡ false
