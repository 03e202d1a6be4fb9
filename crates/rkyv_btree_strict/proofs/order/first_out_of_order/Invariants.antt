-- The search among the entries that are left decides the order of all.
use Rattle.std.proofs.Common.{◌≡◌, ◌+◌, length}
use Rattle.std.specs.Prelude.{MatchOption}
use Rattle.rkyv_btree_format.specs.Increasing.{Increasing, IsOutOfOrder}
use Rattle.rkyv_btree_strict.specs.mirror.Order.{unordered_after}
use Rattle.rkyv_btree_view.specs.Iter.{entries_left}
use Rattle.rkyv_btree_view.specs.View.{entries_of, view_value}
use Rattle.rkyv_btree_strict.proofs.order.first_out_of_order.Given as goal

abbrev pub invariant-loop-key : goal.invariant-loop-key
invariant-loop-key g l =
    let order = g.K.Portable.kind.order in
    let all = entries_of g.K.Portable.kind g.V.Portable.kind g.M.ArchivedMap.E l.fn.map in
    record {
      searched : MatchOption (unordered_after order (view_value l.last) (entries_left l.entries) l.index) (Increasing order all) (IsOutOfOrder order all);
      count : l.index + length (entries_left l.entries) ≡ length all;
    }
