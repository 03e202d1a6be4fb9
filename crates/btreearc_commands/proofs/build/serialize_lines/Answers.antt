-- Why the header isn't written, if it isn't.
use Rattle.btreearc_commands.proofs.Causes.{always, unbegun}
use Rattle.btreearc_commands.proofs.build.serialize_lines.Goals as goal

pub returns-in-Err-clause-err : goal.returns-in-Err-clause-err
returns-in-Err-clause-err g c = always (g.B.Read.remaining c.args.input) c.args.count (λ entries. unbegun c.args.heading entries c.in-Err.fault c.in-Err.ensures.err)
