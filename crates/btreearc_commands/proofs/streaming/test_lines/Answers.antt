-- Lines that were counted have an archive, or the cause is named.
use Rattle.std.proofs.Common.{ℕ, List, Option, IfSome, subst}
use Rattle.btreearc_commands.specs.Streaming.{AreCounted, FailsToTest}
use Rattle.btreearc_commands.proofs.Causes.{tested}
use Rattle.btreearc_commands.proofs.streaming.test_lines.Goals as goal

pub returns-in-Ok-test_count-clause-ok : goal.returns-in-Ok-test_count-clause-ok
returns-in-Ok-test_count-clause-ok g c =
    tested c.args.is_strict c.args.heading (g.R.Reopen.bytes c.args.input.now) c.in-Ok-count_lines.count
    (subst (λ (o : Option (List ℕ)). IfSome o (AreCounted c.args.is_strict c.in-Ok-count_lines.count)) c.in-Ok.ensures.bytes c.in-Ok-count_lines.ensures.ok) c.in-Ok-test_count.ensures.ok

pub returns-in-Err-count_lines-clause-err : goal.returns-in-Err-count_lines-clause-err
returns-in-Err-count_lines-clause-err g c =
    subst (λ (o : Option (List ℕ)). FailsToTest c.args.is_strict c.args.heading o c.in-Err-count_lines.fault) c.in-Ok.ensures.bytes (c.in-Err-count_lines.ensures.err c.args.heading)
