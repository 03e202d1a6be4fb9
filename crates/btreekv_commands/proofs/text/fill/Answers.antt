use Rattle.std.proofs.Common.{rules}
use Rattle.btreekv_commands.proofs.text.fill.Goals as goal

pub returns-clause-ok : goal.returns-clause-ok
returns-clause-ok c = search rules
