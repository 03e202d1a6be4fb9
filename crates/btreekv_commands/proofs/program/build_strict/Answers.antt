-- Of lines that were counted, an error of building is one of the command.
use Rattle.std.proofs.Common.{Some, true}
use Rattle.btreekv_commands.proofs.Causes.{errs_so, fails_so}
use Rattle.btreekv_commands.proofs.program.build_strict.Goals as goal

pub returns-in-Ok-check_order-clause-err : goal.returns-in-Ok-check_order-clause-err
returns-in-Ok-check_order-clause-err c =
    errs_so c.archive.result (fails_so true c.args.heading (Some c.args.text.now) c.in-Ok.count c.in-Ok.ensures.ok) c.archive.ensures.err
