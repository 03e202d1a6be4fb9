-- Each row has its number.
use Rattle.std.proofs.Common.{rules}
use Rattle.btreekv_commands.specs.Figures.{rows}
use Rattle.btreekv_commands.proofs.figures.rows_of.Goals as goal

pub returns : goal.returns
unfolding rows
returns c = search rules
