-- What was tested was written.
use Rattle.std.proofs.Common.{◌≡◌, ℕ, List, Some}
use Rattle.btreekv_commands.specs.Building.{IsBuilt}
use Rattle.btreekv_commands.proofs.Causes.{because_so, unwritten_so, written_so}
use Rattle.btreekv_commands.proofs.streaming.build.Goals as goal

pub returns-in-Ok-written-clause-written : goal.returns-in-Ok-written-clause-written
returns-in-Ok-written-clause-written g c known =
    let left = g.R.Reader.Read.remaining c.in-Ok-reopen.lines in
    let held = g.W.Write.contents c.write_archive-written.result.1 in
    let built = rw c.in-Ok-written.is at c.write_archive-written.ensures.ok in
    written_so c.args.is_strict c.args.heading (g.R.Reopen.bytes c.args.input.now) left c.in-Ok.count held c.in-Ok-reopen.ensures.bytes c.in-Ok.ensures.ok
    (because_so {Q = λ entries. (text : List ℕ) × IsBuilt c.args.heading text entries × (held ≡ Some text)} left c.in-Ok.count (λ entries h. (h.0, h.1, h.2 known)) built)

pub returns-in-Err-written-clause-result : goal.returns-in-Err-written-clause-result
returns-in-Err-written-clause-result g c =
    unwritten_so c.args.is_strict c.args.heading (g.R.Reopen.bytes c.args.input.now) _ _ c.in-Ok.count c.in-Ok.ensures.ok c.in-Err-written.fault
    (rw c.in-Err-written.is at c.write_archive-written.ensures.err)

pub returns-in-Err-written-clause-written : goal.returns-in-Err-written-clause-written
returns-in-Err-written-clause-written g c known =
    unwritten_so c.args.is_strict c.args.heading (g.R.Reopen.bytes c.args.input.now) _ _ c.in-Ok.count c.in-Ok.ensures.ok c.in-Err-written.fault
    (rw c.in-Err-written.is at c.write_archive-written.ensures.err)
