-- The lines that were read are entries, but for the last one at an error.
use Rattle.btreearc_commands.proofs.Counting.{bad_counted, counts_so, errs_so, named_fails, none_counted, one_counted}
use Rattle.btreearc_commands.proofs.entries.count_lines.Goals as goal

pub loop-count-init : goal.loop-count-init
loop-count-init g c = none_counted (g.B.Read.remaining c.args.input.now)

pub returns-in-Ok-Bad-clause-err : goal.returns-in-Ok-Bad-clause-err
returns-in-Ok-Bad-clause-err g c heading =
    bad_counted (g.B.Read.remaining c.args.input.now) (g.B.Read.remaining c.loop-count.input) (g.B.Read.remaining c.next_line.new.input) c.loop-count.count c.loop-count.last c.loop-count.first c.loop-count.invariant (rw c.in-Ok-Bad.field-0-is at c.in-Ok-Bad.ensures.next)

pub returns-in-Ok-End-clause-err : goal.returns-in-Ok-End-clause-err
returns-in-Ok-End-clause-err g c heading =
    errs_so c.in_order.result (named_fails c.args.is_strict heading (g.B.Read.remaining c.args.input.now) (g.B.Read.remaining c.loop-count.input) c.loop-count.count c.loop-count.last c.loop-count.first c.loop-count.invariant (rw c.in-Ok-End.field-0-is at c.in-Ok-End.ensures.next)) c.in_order.ensures.err

pub returns-in-Ok-End-clause-ok : goal.returns-in-Ok-End-clause-ok
returns-in-Ok-End-clause-ok g c =
    counts_so c.args.is_strict (g.B.Read.remaining c.args.input.now) (g.B.Read.remaining c.loop-count.input) c.loop-count.count c.loop-count.last c.loop-count.first c.in_order.result c.loop-count.invariant (rw c.in-Ok-End.field-0-is at c.in-Ok-End.ensures.next) c.in_order.ensures.count c.in_order.ensures.order

pub loop-count-preserved : goal.loop-count-preserved
loop-count-preserved g c =
    one_counted (g.B.Read.remaining c.args.input.now) (g.B.Read.remaining c.loop-count.input) (g.B.Read.remaining c.next_line.new.input) c.loop-count.count c.in-Ok-Entry.key c.in-Ok-Entry.field-0-0-1 c.loop-count.last c.loop-count.first c.first_after-first.result c.loop-count.invariant (rw c.in-Ok-Entry.field-0-is at c.in-Ok-Entry.ensures.next) c.first_after-first.ensures
