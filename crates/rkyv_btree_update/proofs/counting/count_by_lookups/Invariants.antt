-- The changes before those that are left are counted.
use Rattle.std.proofs.Common.{◌+◌, ◌≤◌, length}
use Rattle.rkyv_btree_update.proofs.Counted.{CountsOn}
use Rattle.rkyv_btree_update.specs.Natives.{shown_of}
use Rattle.rkyv_btree_update.specs.Updated.{changes_meant}
use Rattle.rkyv_btree_update.proofs.counting.count_by_lookups.Given as goal

abbrev pub invariant-loop-item : goal.invariant-loop-item
invariant-loop-item g l =
    let shown = changes_meant g.KU.CompareArchived.shown g.VU.CompareArchived.shown in
    let entries = shown_of g.K.Portable.kind g.V.Portable.kind g.M.ArchivedMap.E g.KU.CompareArchived.lent g.VU.CompareArchived.lent l.fn.old.view in
    record {
      counts : CountsOn g.KU.CompareArchived.order entries (shown l.fn.changes) (shown l.rest.rest.now) l.len;
      few : l.len + length l.rest.rest.now ≤ 4294967295 + length l.fn.changes;
    }
