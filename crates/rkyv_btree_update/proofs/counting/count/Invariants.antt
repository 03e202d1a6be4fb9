-- The entries that were passed over and those that are left are all.
use Rattle.std.proofs.Common.{◌≡◌, ◌+◌, ◌≤◌, length}
use Rattle.rkyv_btree_update.specs.mirror.Merged.{AreOrdered, merged, new_left, old_left}
use Rattle.rkyv_btree_update.proofs.counting.count.Given as goal

abbrev pub invariant-loop-len : goal.invariant-loop-len
invariant-loop-len g l =
    let old = old_left {g = g.M.ArchivedMap} {m = g.M.Portable} {k = g.K.Portable} {v = g.V.Portable} g.KU.CompareArchived.lent g.VU.CompareArchived.lent g.KU.CompareArchived.shown g.VU.CompareArchived.shown in
    let new = new_left {g = g.M.ArchivedMap} {m = g.M.Portable} {k = g.K.Portable} {v = g.V.Portable} g.KU.CompareArchived.lent g.VU.CompareArchived.lent g.KU.CompareArchived.shown g.VU.CompareArchived.shown in
    record {
      ordered : AreOrdered g.KU.CompareArchived.order old new l.updates;
      counted : l.len + length (merged g.KU.CompareArchived.order old new l.updates) ≡ length (merged g.KU.CompareArchived.order old new l.fn.updates);
      few : l.len ≤ 4294967295;
    }

abbrev pub decreases-loop-len : goal.decreases-loop-len
decreases-loop-len g l =
    let old = old_left {g = g.M.ArchivedMap} {m = g.M.Portable} {k = g.K.Portable} {v = g.V.Portable} g.KU.CompareArchived.lent g.VU.CompareArchived.lent g.KU.CompareArchived.shown g.VU.CompareArchived.shown in
    let new = new_left {g = g.M.ArchivedMap} {m = g.M.Portable} {k = g.K.Portable} {v = g.V.Portable} g.KU.CompareArchived.lent g.VU.CompareArchived.lent g.KU.CompareArchived.shown g.VU.CompareArchived.shown in
    length (merged g.KU.CompareArchived.order old new l.updates)
