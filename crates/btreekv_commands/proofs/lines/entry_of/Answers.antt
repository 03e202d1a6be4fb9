-- A line that isn't split so is no entry.
use Rattle.std.proofs.Common.{sym, subst}
use Rattle.std.specs.Prelude.{IsUtf8}
use Rattle.btreekv_commands.proofs.Splitting.{entry_parts, no_split}
use Rattle.btreekv_commands.proofs.lines.entry_of.Goals as goal

pub returns-in_default-clause-none : goal.returns-in_default-clause-none
returns-in_default-clause-none c x entry = no_split 9 c.args.line.now x.0 x.1 c.in_default.ensures.none entry.spelled

pub returns-in_default-from_utf8-clause-none : goal.returns-in_default-from_utf8-clause-none
returns-in_default-from_utf8-clause-none c x entry =
    let parts = entry_parts c.args.line.now c.in-Some.key.now c.in-Some.value.now c.in-Some.ensures.found c.in-Some.ensures.first x entry in
    c.in_default-from_utf8.ensures.cases.0 (subst IsUtf8 (sym parts.0) entry.key)

pub returns-in_default-from_utf8-2-clause-none : goal.returns-in_default-from_utf8-2-clause-none
returns-in_default-from_utf8-2-clause-none c x entry =
    let parts = entry_parts c.args.line.now c.in-Some.key.now c.in-Some.value.now c.in-Some.ensures.found c.in-Some.ensures.first x entry in
    c.in_default-from_utf8-2.ensures.cases.0 (subst IsUtf8 (sym parts.1) entry.value)
