use Rattle.std.proofs.Common.{ap, ◌∙◌}
use Rattle.btreearc_lines.specs.Grammar.{lines}
use Rattle.btreekv_commands.proofs.Splitting.{line_fed, line_unfed}
use Rattle.btreekv_commands.proofs.lines.first_line.Goals as goal

pub returns-in-Some-clause-lines : goal.returns-in-Some-clause-lines
returns-in-Some-clause-lines c = ap lines c.in-Some.ensures.found ∙ line_fed c.in-Some.line.now c.in-Some.rest.now c.in-Some.ensures.first

pub returns-in-None-clause-lines : goal.returns-in-None-clause-lines
returns-in-None-clause-lines c = line_unfed c.args.bytes.now c.requires c.in-None.ensures.none
