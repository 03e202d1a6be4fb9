-- Each turn passes over a change, and leaves the same entries.
use Rattle.std.proofs.Common.{◌≡◌, length}
use Rattle.rkyv_btree_update.specs.mirror.Merged.{AreOrdered, merged, new_left, old_left}
use Rattle.rkyv_btree_update.proofs.updates.Updates.next_compared.Given as goal

abbrev pub invariant-loop-item : goal.invariant-loop-item
invariant-loop-item g l =
    let key_shown = g.KU.CompareArchived.shown in
    let value_shown = g.VU.CompareArchived.shown in
    let old = old_left {g = g.M.ArchivedMap} {m = g.M.Portable} {k = g.K.Portable} {v = g.V.Portable} g.KU.CompareArchived.lent g.VU.CompareArchived.lent key_shown value_shown in
    let new = new_left {g = g.M.ArchivedMap} {m = g.M.Portable} {k = g.K.Portable} {v = g.V.Portable} g.KU.CompareArchived.lent g.VU.CompareArchived.lent key_shown value_shown in
    record {
      same : merged g.KU.CompareArchived.order old new l.initial.self ≡ merged g.KU.CompareArchived.order old new l.self;
      ordered : AreOrdered g.KU.CompareArchived.order old new l.self;
    }

abbrev pub decreases-loop-item : goal.decreases-loop-item
decreases-loop-item g l = length (new_left {g = g.M.ArchivedMap} {m = g.M.Portable} {k = g.K.Portable} {v = g.V.Portable} g.KU.CompareArchived.lent g.VU.CompareArchived.lent g.KU.CompareArchived.shown g.VU.CompareArchived.shown l.self)
