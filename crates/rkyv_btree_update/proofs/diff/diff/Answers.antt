-- The two maps are compared as lists.
use Rattle.std.proofs.Common.{◌≡◌, map, sym, ap, subst, ◌∙◌}
use Rattle.std.specs.Ordering.{is_eq}
use Rattle.rkyv_btree_update.proofs.Compared.{difference_by_order}
use Rattle.rkyv_btree_update.proofs.Meant.{changes_through, read_meant, shown_increase, shown_meant, shown_updated}
use Rattle.rkyv_btree_update.proofs.Writes.{drained}
use Rattle.rkyv_btree_update.specs.Differences.{IsDifference}
use Rattle.rkyv_btree_update.specs.Natives.{both, meaning, shown_of}
use Rattle.rkyv_btree_update.specs.Updated.{changes_meant, key_change, updated}
use Rattle.rkyv_btree_update.specs.mirror.Compared.{compared}
use Rattle.rkyv_btree_update.specs.mirror.Merged.{diff_left, entries_ahead}
use Rattle.rkyv_btree_update.proofs.diff.diff.Goals as goal

pub returns-clause-difference : goal.returns-clause-difference
returns-clause-difference g c changes all =
    let left = diff_left {g = g.M.ArchivedMap} {m = g.M.Portable} {k = g.K.Portable} {v = g.V.Portable} g.KU.CompareArchived.order g.VU.CompareArchived.order g.KU.CompareArchived.lent g.VU.CompareArchived.lent g.KU.CompareArchived.shown g.VU.CompareArchived.shown in
    let old = c.args.old.view in
    let new = c.args.new.view in
    let shown_old = shown_of g.K.Portable.kind g.V.Portable.kind g.M.ArchivedMap.E g.KU.CompareArchived.lent g.VU.CompareArchived.lent old in
    let shown_new = shown_of g.K.Portable.kind g.V.Portable.kind g.M.ArchivedMap.E g.KU.CompareArchived.lent g.VU.CompareArchived.lent new in
    let key = c.is_lent.ensures in
    let value = c.is_lent-2.ensures in
    let order = g.KU.CompareArchived.order in
    let same = λ (x y : g.VU.CompareArchived.Shown). is_eq (g.VU.CompareArchived.order x y) in
    let are : changes_meant g.KU.CompareArchived.shown g.VU.CompareArchived.shown changes ≡ compared order same shown_old shown_new =
    sym (drained (key_change g.KU.CompareArchived.shown g.VU.CompareArchived.shown) left (record { from = c.of.result; to = c.of-2.result }) changes all)
    ∙ ap (λ zs. compared order same zs (entries_ahead {g = g.M.ArchivedMap} {m = g.M.Portable} {k = g.K.Portable} {v = g.V.Portable} g.KU.CompareArchived.lent g.VU.CompareArchived.lent g.KU.CompareArchived.shown g.VU.CompareArchived.shown c.of-2.result)) c.of.ensures ∙ ap (compared order same shown_old) c.of-2.ensures in
    subst (IsDifference order shown_old shown_new) (sym are)
    (difference_by_order key.total key.exact g.VU.CompareArchived.order value.total value.exact shown_old shown_new
    (shown_increase g.K.Portable.kind g.V.Portable.kind g.M.ArchivedMap.E g.KU.CompareArchived.lent g.VU.CompareArchived.lent key.meant value.meant (read_meant key) (read_meant value) old.buf.now order key.alike old.pos c.args.old.increasing)
    (shown_increase g.K.Portable.kind g.V.Portable.kind g.M.ArchivedMap.E g.KU.CompareArchived.lent g.VU.CompareArchived.lent key.meant value.meant (read_meant key) (read_meant value) new.buf.now order key.alike new.pos c.args.new.increasing))

pub returns-clause-leads : goal.returns-clause-leads
returns-clause-leads g c keys values changes all =
    let old = c.args.old.view in
    let new = c.args.new.view in
    let order = g.KU.CompareArchived.order in
    let leads = (returns-clause-difference g c changes all).leads in
    ap (updated g.K.Portable.kind.order _) (changes_through (meaning g.KU.Archive.archival keys.same) (meaning g.VU.Archive.archival values.same) g.KU.CompareArchived.shown g.VU.CompareArchived.shown keys.meant values.meant keys.means values.means changes)
    ∙ sym (shown_updated g.K.Portable.kind g.V.Portable.kind g.M.ArchivedMap.E g.KU.CompareArchived.lent g.VU.CompareArchived.lent keys.meant values.meant (read_meant keys) (read_meant values) old.buf.now order keys.alike old.pos (changes_meant g.KU.CompareArchived.shown g.VU.CompareArchived.shown changes))
    ∙ ap (map (both keys.meant values.meant)) leads
    ∙ shown_meant g.K.Portable.kind g.V.Portable.kind g.M.ArchivedMap.E g.KU.CompareArchived.lent g.VU.CompareArchived.lent keys.meant values.meant (read_meant keys) (read_meant values) new.buf.now new.pos
