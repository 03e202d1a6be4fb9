-- The search among the changes that are left decides the order of all.
use Rattle.std.proofs.Common.{◌≡◌, ◌+◌, length}
use Rattle.std.specs.Prelude.{MatchOption}
use Rattle.rkyv_btree_format.specs.Increasing.{Increasing, IsOutOfOrder}
use Rattle.rkyv_btree_strict.specs.mirror.Order.{unordered_after}
use Rattle.rkyv_btree_update.proofs.order.first_out_of_order.Given as goal

abbrev pub invariant-loop-next : goal.invariant-loop-next
invariant-loop-next g l = record {
  searched : MatchOption (unordered_after g.K.Ord.cmp l.last l.rest.rest.now l.index) (Increasing g.K.Ord.cmp l.fn.changes) (IsOutOfOrder g.K.Ord.cmp l.fn.changes);
  count : l.index + length l.rest.rest.now ≡ length l.fn.changes;
}
