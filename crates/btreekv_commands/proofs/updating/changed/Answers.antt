-- What the library writes is the file, and its fault the cause.
use Rattle.std.proofs.Common.{List, ℕ, sym, subst}
use Rattle.rkyv_btree_portable.specs.Text.{text_kind}
use Rattle.rkyv_btree_update.specs.Updated.{changes_meant}
use Rattle.rkyv_btree_view.specs.View.{entries_of}
use Rattle.btreekv_commands.specs.Updating.{FailsChanges, IsStrictFile, changed_entries}
use Rattle.btreekv_commands.specs.declared.update_fault.UpdateFault.{UpdateFault}
use Rattle.btreekv_commands.proofs.Updates.{bytes_lent, fails_changes, increase, strict_file}
use Rattle.btreekv_commands.proofs.updating.changed.Goals as goal

pub returns-in-Ok-update-clause-ok : goal.returns-in-Ok-update-clause-ok
returns-in-Ok-update-clause-ok c =
    subst (λ (b : List ℕ). IsStrictFile c.args.heading b (changed_entries (entries_of text_kind text_kind 5 c.args.map.view)
    (changes_meant (λ k. k.now) (λ v. v.now) c.args.changes.now))) (sym c.into_vec.ensures)
    (strict_file c.args.heading c.write_heading.new.writer c.update.new.writer c.in-Ok-update.field-0
    (changed_entries (entries_of text_kind text_kind 5 c.args.map.view) (changes_meant (λ k. k.now) (λ v. v.now) c.args.changes.now))
    c.in-Ok.ensures.ok c.in-Ok.ensures.named c.in-Ok-update.ensures.appended (c.in-Ok-update.ensures.ok bytes_lent bytes_lent).strict)

pub returns-in-Ok-update-clause-in_order : goal.returns-in-Ok-update-clause-in_order
returns-in-Ok-update-clause-in_order c = increase c.args.changes.now c.in-Ok-update.ensures.in_order

pub returns-in-Err-update-clause-err : goal.returns-in-Err-update-clause-err
returns-in-Err-update-clause-err c =
    subst (λ (f : UpdateFault). FailsChanges c.args.heading (entries_of text_kind text_kind 5 c.args.map.view)
    (changes_meant (λ k. k.now) (λ v. v.now) c.args.changes.now) f) (sym c.change_fault.ensures)
    (fails_changes c.args.heading (entries_of text_kind text_kind 5 c.args.map.view) c.args.changes.now c.update.new.writer c.write_heading.new.writer c.in-Err-update.fault
    c.in-Ok.ensures.ok c.in-Err-update.ensures.err.cause)
