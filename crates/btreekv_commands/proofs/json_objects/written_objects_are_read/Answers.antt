use Rattle.btreekv_commands.proofs.ObjectsWritten.{line_is_object, line_is_same}
use Rattle.btreekv_commands.proofs.json_objects.written_objects_are_read.Goals as goal

pub returns-clause-same : goal.returns-clause-same
returns-clause-same c = line_is_same

pub returns-clause-last : goal.returns-clause-last
returns-clause-last c = line_is_object
