-- The writer has written the one record.
use Rattle.std.proofs.Common.{ℕ, List, [], Option, Some, subst}
use Rattle.std.specs.Io.KnownBytes.{Keeps}
use Rattle.btreekv_commands.proofs.csv_records.row_of.Goals as goal

pub returns-in-Ok-clause-ok : goal.returns-in-Ok-clause-ok
returns-in-Ok-clause-ok c =
    let written = c.in_ok-write_pair.ensures.ok c.args.table [] c.writer_of-writer.ensures in
    subst (λ (known : Option (List ℕ)). Keeps known (Some c.in-Ok.row.items)) written.text c.in-Ok.ensures.ok
