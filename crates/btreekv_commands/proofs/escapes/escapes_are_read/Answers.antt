use Rattle.btreekv_commands.proofs.Escaped.{escape_same}
use Rattle.btreekv_commands.proofs.escapes.escapes_are_read.Goals as goal

pub returns : goal.returns
returns c = escape_same
