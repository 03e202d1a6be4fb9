use Rattle.btreekv_commands.proofs.TablesRead.{table_read}
use Rattle.btreekv_commands.proofs.csv_records.written_tables_are_read.Goals as goal

pub returns : goal.returns
returns c = table_read
