-- The lines are those of the changes that the library gives.
use Rattle.std.proofs.Common.{[], ◌∷◌, ◌++◌, map, ap, refl, ◌∙◌}
use Rattle.rkyv_btree_portable.specs.Text.{text_kind}
use Rattle.rkyv_btree_view.specs.View.{entries_of}
use Rattle.btreekv_commands.specs.Changing.{changes_text, lent_change}
use Rattle.btreekv_commands.proofs.Updates.{first_refused}
use Rattle.btreekv_commands.proofs.differences.diff.Goals as goal

pub returns-in-Err-clause-err : goal.returns-in-Err-clause-err
returns-in-Err-clause-err c = first_refused c.args.old.now (c.args.new.now ∷ []) c.in-Err.fault c.in-Err.ensures.err

pub returns-in-Err-open_increasing-clause-err : goal.returns-in-Err-open_increasing-clause-err
returns-in-Err-open_increasing-clause-err c = record {
  before = c.args.old.now ∷ [];
  refused = c.args.new.now;
  after = [];
  lists = entries_of text_kind text_kind 5 c.in-Ok.from.view ∷ [];
  parts = refl;
  good = (c.in-Ok.ensures.ok, tt);
  refuses = c.in-Err-open_increasing.ensures.err;
  number = refl;
}

pub returns-in-Ok-write_changes-clause-ok : goal.returns-in-Ok-write_changes-clause-ok
returns-in-Ok-write_changes-clause-ok c =
    let appended = c.in-Ok-write_changes.ensures in record {
      entries = entries_of text_kind text_kind 5 c.in-Ok.from.view;
      others = entries_of text_kind text_kind 5 c.in-Ok-open_increasing.to.view;
      headed = ((_, c.in-Ok.ensures.headed), (_, c.in-Ok-open_increasing.ensures.headed));
      old_is = c.in-Ok.ensures.ok;
      new_is = c.in-Ok-open_increasing.ensures.ok;
      changes = map lent_change appended.0;
      leads = c.diff-changes.ensures.difference appended.0 appended.1;
      lines = appended.2 ∙ ap (λ z. z ++ changes_text (map lent_change appended.0)) c.new-text.ensures.bytes;
    }
