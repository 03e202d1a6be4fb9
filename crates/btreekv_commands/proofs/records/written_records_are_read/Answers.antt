use Rattle.btreekv_commands.proofs.JsonRead.{json_read}
use Rattle.btreekv_commands.proofs.Recorded.{escapes_read, nulls_read}
use Rattle.btreekv_commands.proofs.records.written_records_are_read.Goals as goal

pub returns-clause-escaped : goal.returns-clause-escaped
returns-clause-escaped c = escapes_read

pub returns-clause-null : goal.returns-clause-null
returns-clause-null c = nulls_read

pub returns-clause-json : goal.returns-clause-json
returns-clause-json c = json_read
