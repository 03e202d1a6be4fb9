-- The cause of an error is that of building.
use Rattle.std.proofs.Common.{Some}
use Rattle.btreekv_commands.proofs.Causes.{program_caused}
use Rattle.btreekv_commands.proofs.building.archive.Goals as goal

pub returns-in-Err-clause-err : goal.returns-in-Err-clause-err
returns-in-Err-clause-err c =
    rw c.program_fault.ensures (program_caused c.args.heading (Some c.args.text.now) c.args.count c.in-Err.fault c.in-Err.ensures.read c.in-Err.ensures.err)
