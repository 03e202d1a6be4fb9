-- The merge is written.
use Rattle.std.proofs.Common.{length, map, refl, sym, ap, ◌∙◌, arith}
use Rattle.std.proofs.lemmas.Result.{IfOk-weaker, err_from_is_err_and}
use Rattle.rkyv_btree_writing_laws.proofs.Kept.{same_begins}
use Rattle.rkyv_btree_update.proofs.Counted.{counted_none, counted_some}
use Rattle.rkyv_btree_update.proofs.Ends.{map_appended}
use Rattle.rkyv_btree_update.proofs.Meant.{entries_through, read_meant, shown_increase, shown_updated}
use Rattle.rkyv_btree_update.proofs.Merged.{can_start, merged_lists}
use Rattle.rkyv_btree_update.proofs.Writes.{items_are, smallest_built, unbuilt, unrooted, writes_smallest}
use Rattle.rkyv_btree_update.specs.Natives.{both, meaning, shown_of}
use Rattle.rkyv_btree_update.specs.Written.{too_many}
use Rattle.rkyv_btree_update.specs.Updated.{updated}
use Rattle.rkyv_btree_update.specs.mirror.Merged.{changing_left, merged, new_left, old_left}
use Rattle.rkyv_btree_update.proofs.update.write_updated.Goals as goal

pub serialize_from_ordered_iter-requires-clause-can : goal.serialize_from_ordered_iter-requires-clause-can
serialize_from_ordered_iter-requires-clause-can g c =
    let view = c.args.old.view in
    let key_shown = g.KU.CompareArchived.shown in
    let value_shown = g.VU.CompareArchived.shown in
    let changes = changing_left {g = g.M.ArchivedMap} {m = g.M.Portable} {k = g.K.Portable} {v = g.V.Portable} g.KU.CompareArchived.lent g.VU.CompareArchived.lent key_shown value_shown c.args.changes in
    let old = old_left {g = g.M.ArchivedMap} {m = g.M.Portable} {k = g.K.Portable} {v = g.V.Portable} g.KU.CompareArchived.lent g.VU.CompareArchived.lent key_shown value_shown in
    let new = new_left {g = g.M.ArchivedMap} {m = g.M.Portable} {k = g.K.Portable} {v = g.V.Portable} g.KU.CompareArchived.lent g.VU.CompareArchived.lent key_shown value_shown in
    let entries = shown_of g.K.Portable.kind g.V.Portable.kind g.M.ArchivedMap.E g.KU.CompareArchived.lent g.VU.CompareArchived.lent view in
    let increase = shown_increase g.K.Portable.kind g.V.Portable.kind g.M.ArchivedMap.E g.KU.CompareArchived.lent g.VU.CompareArchived.lent c.is_lent.ensures.meant c.is_lent-2.ensures.meant (read_meant c.is_lent.ensures) (read_meant c.is_lent-2.ensures) view.buf.now g.KU.CompareArchived.order c.is_lent.ensures.alike view.pos c.args.old.increasing in
    can_start g.KU.CompareArchived.order g.KU.CompareArchived.lent g.VU.CompareArchived.lent key_shown value_shown c.new-entries.result entries changes c.new-entries.ensures.old c.new-entries.ensures.new c.new-entries.ensures.compared increase c.requires.in_order

pub serialize_from_ordered_iter-requires-clause-ends : goal.serialize_from_ordered_iter-requires-clause-ends
serialize_from_ordered_iter-requires-clause-ends g c =
    let view = c.args.old.view in
    let key_shown = g.KU.CompareArchived.shown in
    let value_shown = g.VU.CompareArchived.shown in
    let changes = changing_left {g = g.M.ArchivedMap} {m = g.M.Portable} {k = g.K.Portable} {v = g.V.Portable} g.KU.CompareArchived.lent g.VU.CompareArchived.lent key_shown value_shown c.args.changes in
    let old = old_left {g = g.M.ArchivedMap} {m = g.M.Portable} {k = g.K.Portable} {v = g.V.Portable} g.KU.CompareArchived.lent g.VU.CompareArchived.lent key_shown value_shown in
    let new = new_left {g = g.M.ArchivedMap} {m = g.M.Portable} {k = g.K.Portable} {v = g.V.Portable} g.KU.CompareArchived.lent g.VU.CompareArchived.lent key_shown value_shown in
    let entries = shown_of g.K.Portable.kind g.V.Portable.kind g.M.ArchivedMap.E g.KU.CompareArchived.lent g.VU.CompareArchived.lent view in
    let written = merged_lists g.KU.CompareArchived.order old new c.new-entries.result entries changes c.new-entries.ensures.old c.new-entries.ensures.new in
    let count = counted_some _ c.requires.counted c.in-Some.is in
    (tt, omega (arith, count.0, count.1, ap length written))

pub returns-in_default-clause-err : goal.returns-in_default-clause-err
returns-in_default-clause-err g c =
    let view = c.args.old.view in
    let key_shown = g.KU.CompareArchived.shown in
    let value_shown = g.VU.CompareArchived.shown in
    let changes = changing_left {g = g.M.ArchivedMap} {m = g.M.Portable} {k = g.K.Portable} {v = g.V.Portable} g.KU.CompareArchived.lent g.VU.CompareArchived.lent key_shown value_shown c.args.changes in
    let old = old_left {g = g.M.ArchivedMap} {m = g.M.Portable} {k = g.K.Portable} {v = g.V.Portable} g.KU.CompareArchived.lent g.VU.CompareArchived.lent key_shown value_shown in
    let new = new_left {g = g.M.ArchivedMap} {m = g.M.Portable} {k = g.K.Portable} {v = g.V.Portable} g.KU.CompareArchived.lent g.VU.CompareArchived.lent key_shown value_shown in
    let entries = shown_of g.K.Portable.kind g.V.Portable.kind g.M.ArchivedMap.E g.KU.CompareArchived.lent g.VU.CompareArchived.lent view in
    record { cause = too_many refl (counted_none _ c.requires.counted c.in_default.is) refl; kept = same_begins (g.W.Writer.state c.args.writer.now) (g.W.Writer.state c.args.writer.now) refl }

pub returns-in_err-root-clause-err : goal.returns-in_err-root-clause-err
returns-in_err-root-clause-err g c =
    let view = c.args.old.view in
    let key_shown = g.KU.CompareArchived.shown in
    let value_shown = g.VU.CompareArchived.shown in
    let changes = changing_left {g = g.M.ArchivedMap} {m = g.M.Portable} {k = g.K.Portable} {v = g.V.Portable} g.KU.CompareArchived.lent g.VU.CompareArchived.lent key_shown value_shown c.args.changes in
    let old = old_left {g = g.M.ArchivedMap} {m = g.M.Portable} {k = g.K.Portable} {v = g.V.Portable} g.KU.CompareArchived.lent g.VU.CompareArchived.lent key_shown value_shown in
    let new = new_left {g = g.M.ArchivedMap} {m = g.M.Portable} {k = g.K.Portable} {v = g.V.Portable} g.KU.CompareArchived.lent g.VU.CompareArchived.lent key_shown value_shown in
    let entries = shown_of g.K.Portable.kind g.V.Portable.kind g.M.ArchivedMap.E g.KU.CompareArchived.lent g.VU.CompareArchived.lent view in
    let written = merged_lists g.KU.CompareArchived.order old new c.new-entries.result entries changes c.new-entries.ensures.old c.new-entries.ensures.new in
    let p = err_from_is_err_and c.from_residual.result c.from_residual.ensures.1 in
    rw (p.1, p.2)
    (record {
      cause = unbuilt g.K.Portable.kind g.V.Portable.kind g.row.E g.KU.Archive.archival g.VU.Archive.archival key_shown value_shown (merged g.KU.CompareArchived.order old new) c.new-entries.result (updated g.KU.CompareArchived.order entries changes) written c.in-Some.len (counted_some _ c.requires.counted c.in-Some.is).0
          (g.W.Writer.state c.args.writer.now) c.in_err-root.field-0.0 (g.W.Writer.state c.serialize_from_ordered_iter.new.writer) c.in_err-root.ensures.err.cause;
      kept = c.in_err-root.ensures.err.kept;
    })

pub returns-clause-smallest : goal.returns-clause-smallest
returns-clause-smallest g c keys values =
    let view = c.args.old.view in
    let key_shown = g.KU.CompareArchived.shown in
    let value_shown = g.VU.CompareArchived.shown in
    let changes = changing_left {g = g.M.ArchivedMap} {m = g.M.Portable} {k = g.K.Portable} {v = g.V.Portable} g.KU.CompareArchived.lent g.VU.CompareArchived.lent key_shown value_shown c.args.changes in
    let old = old_left {g = g.M.ArchivedMap} {m = g.M.Portable} {k = g.K.Portable} {v = g.V.Portable} g.KU.CompareArchived.lent g.VU.CompareArchived.lent key_shown value_shown in
    let new = new_left {g = g.M.ArchivedMap} {m = g.M.Portable} {k = g.K.Portable} {v = g.V.Portable} g.KU.CompareArchived.lent g.VU.CompareArchived.lent key_shown value_shown in
    let entries = shown_of g.K.Portable.kind g.V.Portable.kind g.M.ArchivedMap.E g.KU.CompareArchived.lent g.VU.CompareArchived.lent view in
    let written = merged_lists g.KU.CompareArchived.order old new c.new-entries.result entries changes c.new-entries.ensures.old c.new-entries.ensures.new in
    let is = c.in_ok-root.ensures.ok.smallest in
    let items = items_are g.K.Portable.kind g.V.Portable.kind g.row.E g.KU.Archive.archival g.VU.Archive.archival key_shown value_shown (merged g.KU.CompareArchived.order old new) c.new-entries.result (updated g.KU.CompareArchived.order entries changes) written c.in-Some.len (counted_some _ c.requires.counted c.in-Some.is).0
    is.0.items is.0.all in
    let key = meaning g.KU.Archive.archival keys.same in
    let value = meaning g.VU.Archive.archival values.same in
    let mean = entries_through key value key_shown value_shown keys.meant values.meant keys.means values.means is.0.items
    ∙ ap (map (both keys.meant values.meant)) items
    ∙ shown_updated g.K.Portable.kind g.V.Portable.kind g.M.ArchivedMap.E g.KU.CompareArchived.lent g.VU.CompareArchived.lent keys.meant values.meant (read_meant keys) (read_meant values) view.buf.now g.KU.CompareArchived.order keys.alike view.pos changes in
    let least = smallest_built g.K.Portable.kind g.V.Portable.kind g.row.E g.KU.Archive.archival g.VU.Archive.archival key_shown value_shown (merged g.KU.CompareArchived.order old new) c.new-entries.result (updated g.KU.CompareArchived.order entries changes) written c.in-Some.len (counted_some _ c.requires.counted c.in-Some.is).0
    (g.W.Writer.state c.args.writer.now) c.in_ok-root.root (g.W.Writer.state c.serialize_from_ordered_iter.new.writer) is in
    writes_smallest g.K.Portable.kind g.V.Portable.kind g.row.E g.KU.Archive.archival g.VU.Archive.archival keys.same values.same is.0.items _ mean
    (g.W.Writer.state c.args.writer.now) (g.W.Writer.state c.serialize_from_ordered_iter.new.writer) (g.W.Writer.state c.write_root.new.writer) c.in_ok-root.root
    c.write_root.result c.in-Some.len (sym is.0.count) least c.in_ok-root.ensures.ok.went
    (IfOk-weaker c.write_root.result _ _ (λ at done. done.pos) c.write_root.ensures.ok) (IfOk-weaker c.write_root.result _ _ (λ at done. done.wrote) c.write_root.ensures.ok) (IfOk-weaker c.write_root.result _ _ (λ at done. done.last) c.write_root.ensures.ok)

pub returns-clause-err : goal.returns-clause-err
returns-clause-err g c =
    let view = c.args.old.view in
    let key_shown = g.KU.CompareArchived.shown in
    let value_shown = g.VU.CompareArchived.shown in
    let changes = changing_left {g = g.M.ArchivedMap} {m = g.M.Portable} {k = g.K.Portable} {v = g.V.Portable} g.KU.CompareArchived.lent g.VU.CompareArchived.lent key_shown value_shown c.args.changes in
    let old = old_left {g = g.M.ArchivedMap} {m = g.M.Portable} {k = g.K.Portable} {v = g.V.Portable} g.KU.CompareArchived.lent g.VU.CompareArchived.lent key_shown value_shown in
    let new = new_left {g = g.M.ArchivedMap} {m = g.M.Portable} {k = g.K.Portable} {v = g.V.Portable} g.KU.CompareArchived.lent g.VU.CompareArchived.lent key_shown value_shown in
    let entries = shown_of g.K.Portable.kind g.V.Portable.kind g.M.ArchivedMap.E g.KU.CompareArchived.lent g.VU.CompareArchived.lent view in
    let written = merged_lists g.KU.CompareArchived.order old new c.new-entries.result entries changes c.new-entries.ensures.old c.new-entries.ensures.new in
    unrooted g.K.Portable.kind g.V.Portable.kind g.row.E g.KU.Archive.archival g.VU.Archive.archival key_shown value_shown (merged g.KU.CompareArchived.order old new) c.new-entries.result (updated g.KU.CompareArchived.order entries changes) written c.in-Some.len (counted_some _ c.requires.counted c.in-Some.is).0
    (g.W.Writer.state c.args.writer.now) c.in_ok-root.root (g.W.Writer.state c.serialize_from_ordered_iter.new.writer) (g.W.Writer.state c.write_root.new.writer) c.write_root.result c.in_ok-root.ensures.ok.written c.in_ok-root.ensures.ok.went c.write_root.ensures.err

pub returns-clause-appended : goal.returns-clause-appended
returns-clause-appended g c =
    map_appended c.write_root.result (g.W.Writer.state c.args.writer.now) (g.W.Writer.state c.serialize_from_ordered_iter.new.writer) (g.W.Writer.state c.write_root.new.writer) c.in_ok-root.root c.in-Some.len c.in_ok-root.ensures.ok.went c.write_root.ensures.ok
