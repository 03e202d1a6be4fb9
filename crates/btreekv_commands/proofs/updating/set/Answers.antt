-- The archive with one entry put, or why there is none.
use Rattle.std.proofs.Common.{[]}
use Rattle.rkyv_btree_portable.specs.Text.{text_kind}
use Rattle.rkyv_btree_view.specs.View.{entries_of}
use Rattle.btreekv_commands.proofs.SetEntries.{fails_so, set_so}
use Rattle.btreekv_commands.proofs.Updates.{first_refused}
use Rattle.btreekv_commands.proofs.updating.set.Goals as goal

pub returns-in-Err-clause-err : goal.returns-in-Err-clause-err
returns-in-Err-clause-err c = first_refused c.args.archive.now [] c.in-Err.fault c.in-Err.ensures.err

pub returns-clause-ok : goal.returns-clause-ok
returns-clause-ok c =
    set_so c.args.archive.now c.args.key.now c.args.value.now (entries_of text_kind text_kind 5 c.in-Ok.opened.1.view) c.in-Ok.opened.0 c.in-Ok.ensures.headed c.in-Ok.ensures.ok
    (λ bytes. bytes.items) c.changed.result c.changed.ensures.ok

pub returns-clause-err : goal.returns-clause-err
returns-clause-err c =
    fails_so c.args.archive.now c.args.key.now c.args.value.now (entries_of text_kind text_kind 5 c.in-Ok.opened.1.view) c.in-Ok.opened.0 c.in-Ok.ensures.headed c.in-Ok.ensures.ok
    c.changed.result c.changed.ensures.err
