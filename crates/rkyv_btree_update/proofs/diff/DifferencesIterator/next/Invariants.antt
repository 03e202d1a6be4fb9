-- Each turn passes over an entry that both maps have, and leaves the same changes.
use Rattle.std.proofs.Common.{◌≡◌}
use Rattle.rkyv_btree_update.specs.mirror.Merged.{diff_left, diff_size}
use Rattle.rkyv_btree_update.proofs.diff.DifferencesIterator.next.Given as goal

abbrev pub invariant-loop-item : goal.invariant-loop-item
invariant-loop-item g l =
    let left = diff_left {g = g.M.ArchivedMap} {m = g.M.Portable} {k = g.K.Portable} {v = g.V.Portable} g.KU.CompareArchived.order g.VU.CompareArchived.order g.KU.CompareArchived.lent g.VU.CompareArchived.lent g.KU.CompareArchived.shown g.VU.CompareArchived.shown in
    record { same : left l.initial.self ≡ left l.self }

abbrev pub decreases-loop-item : goal.decreases-loop-item
decreases-loop-item g l = diff_size {g = g.M.ArchivedMap} {m = g.M.Portable} {k = g.K.Portable} {v = g.V.Portable} g.KU.CompareArchived.lent g.VU.CompareArchived.lent g.KU.CompareArchived.shown g.VU.CompareArchived.shown l.self
