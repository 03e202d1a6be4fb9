use Rattle.btreekv_commands.proofs.TablesOnce.{none_bad, one_table}
use Rattle.btreekv_commands.proofs.csv_records.tables_are_determined.Goals as goal

pub returns-clause-entries : goal.returns-clause-entries
returns-clause-entries c = one_table

pub returns-clause-records : goal.returns-clause-records
returns-clause-records c = none_bad
