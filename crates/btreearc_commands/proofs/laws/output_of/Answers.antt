-- The word `build` names the command that writes a header.
use Rattle.std.proofs.Common.{rules}
use Rattle.btreearc_lines.specs.declared.heading.Heading.TheVariants.{Typed}
use Rattle.btreearc_commands.proofs.laws.output_of.Goals as goal

pub returns-clause-build : goal.returns-clause-build
returns-clause-build c is =
    let builds = c.in_ok-run.ensures.build Typed in
    search rules
