-- The update of what was read, or its fault.
use Rattle.std.proofs.Common.{◌∙◌, ap, []}
use Rattle.rkyv_btree_portable.specs.Text.{text_kind}
use Rattle.rkyv_btree_update.specs.Updated.{changes_meant}
use Rattle.rkyv_btree_view.specs.View.{entries_of}
use Rattle.btreekv_commands.proofs.Updates.{fails_so, first_refused, updated_so}
use Rattle.btreekv_commands.proofs.updating.update.Goals as goal

pub returns-in-Err-clause-err : goal.returns-in-Err-clause-err
returns-in-Err-clause-err c = first_refused c.args.archive.now [] c.in-Err.fault c.in-Err.ensures.err

pub returns-clause-ok : goal.returns-clause-ok
returns-clause-ok c =
    let read = c.in-Ok-read_changes.ensures.ok in
    let count = ap (changes_meant (λ k. k.now) (λ v. v.now)) c.as_slice.ensures.value ∙ read.2 in
    updated_so (λ bytes. bytes.items) c.args.is_sorted c.args.archive.now c.args.lines.now c.in-Ok.opened.0 (entries_of text_kind text_kind 5 c.in-Ok.opened.1.view) read.0
    (changes_meant (λ k. k.now) (λ v. v.now) c.as_slice.result.now) c.in-Ok.ensures.headed c.in-Ok.ensures.ok read.1 count c.changed.result c.changed.ensures.ok
    c.changed.ensures.in_order

pub returns-clause-err : goal.returns-clause-err
returns-clause-err c =
    let read = c.in-Ok-read_changes.ensures.ok in
    let count = ap (changes_meant (λ k. k.now) (λ v. v.now)) c.as_slice.ensures.value ∙ read.2 in
    fails_so (λ bytes. bytes.items) c.args.is_sorted c.args.archive.now c.args.lines.now c.in-Ok.opened.0 (entries_of text_kind text_kind 5 c.in-Ok.opened.1.view) read.0
    (changes_meant (λ k. k.now) (λ v. v.now) c.as_slice.result.now) c.in-Ok.ensures.headed c.in-Ok.ensures.ok read.1 count c.changed.result c.changed.ensures.err
