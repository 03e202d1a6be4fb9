use Rattle.btreearc_commands.proofs.Written.{written-lines}
use Rattle.btreearc_commands.proofs.listing.read_back.Goals as goal

pub returns : goal.returns
returns c = written-lines
