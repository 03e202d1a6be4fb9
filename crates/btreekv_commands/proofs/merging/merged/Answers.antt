-- What the library writes is the file, and its fault the cause.
use Rattle.std.proofs.Common.{List, ℕ, sym, subst}
use Rattle.rkyv_btree_portable.specs.Text.{text_kind}
use Rattle.rkyv_btree_view.specs.View.{entries_of}
use Rattle.btreekv_commands.specs.Updating.{IsStrictFile, put_over}
use Rattle.btreekv_commands.proofs.Updates.{bytes_lent, strict_file, unwritten}
use Rattle.btreekv_commands.proofs.merging.merged.Goals as goal

pub returns-in-Ok-merge-clause-ok : goal.returns-in-Ok-merge-clause-ok
returns-in-Ok-merge-clause-ok c =
    subst (λ (b : List ℕ). IsStrictFile c.args.heading b (put_over (entries_of text_kind text_kind 5 c.args.first.view)
    (entries_of text_kind text_kind 5 c.args.second.view))) (sym c.into_vec.ensures)
    (strict_file c.args.heading c.write_heading.new.writer c.merge.new.writer c.in-Ok-merge.field-0
    (put_over (entries_of text_kind text_kind 5 c.args.first.view) (entries_of text_kind text_kind 5 c.args.second.view)) c.in-Ok.ensures.ok
    c.in-Ok.ensures.named c.in-Ok-merge.ensures.appended (c.in-Ok-merge.ensures.ok bytes_lent bytes_lent).strict)

pub returns-in-Err-merge-clause-err : goal.returns-in-Err-merge-clause-err
returns-in-Err-merge-clause-err c =
    unwritten c.args.heading (put_over (entries_of text_kind text_kind 5 c.args.first.view) (entries_of text_kind text_kind 5 c.args.second.view))
    c.write_heading.new.writer c.merge.new.writer c.in-Err-merge.fault c.in-Ok.ensures.ok c.in-Err-merge.ensures.err.cause
