-- A line that isn't split, or that is no entry, is no change.
use Rattle.btreekv_commands.proofs.ChangeLines.{no_change, no_entry}
use Rattle.btreekv_commands.proofs.changes.change_of.Goals as goal

pub returns-in_default-from_utf8-clause-none : goal.returns-in_default-from_utf8-clause-none
returns-in_default-from_utf8-clause-none c = no_change c.args.line.now c.in_default.ensures.none c.in_default-from_utf8.ensures.cases.0

pub returns-in_default-entry_of-clause-none : goal.returns-in_default-entry_of-clause-none
returns-in_default-entry_of-clause-none c =
    no_entry c.args.line.now c.in-Some.field-0.0.now c.in-Some.field-0.1.now c.in-Some.ensures.found c.in_default-entry_of.ensures.none
