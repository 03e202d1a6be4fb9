-- The cause of an error is that of building.
use Rattle.btreekv_commands.proofs.Causes.{program_caused}
use Rattle.btreekv_commands.proofs.streaming.test_build.Goals as goal

pub returns-clause-err : goal.returns-clause-err
returns-clause-err g c =
    rw c.program_fault.ensures (program_caused c.args.heading (g.B.Read.remaining c.args.input) c.args.count c.in-Err.fault c.in-Err.ensures.read c.in-Err.ensures.err)
