use Rattle.btreekv_commands.proofs.RoundTrip.{all_read, updated_by_lines}
use Rattle.btreekv_commands.proofs.differences.differences_are_read.Goals as goal

pub returns-clause-read : goal.returns-clause-read
returns-clause-read c = all_read

pub returns-clause-updated : goal.returns-clause-updated
returns-clause-updated c = updated_by_lines
