-- The keys of the entries that were read increase, but for the last one at an error.
use Rattle.std.proofs.Common.{refl, ap}
use Rattle.btreekv_commands.proofs.Ordering.{none_passed, one_passed, one_stopped, all_passed, count_passed}
use Rattle.btreekv_commands.proofs.entries.check_order.Goals as goal

pub loop-index-init : goal.loop-index-init
loop-index-init g c =
    none_passed (λ s. s.left) (λ s. g.B.Read.remaining s.input) (g.B.Read.remaining c.args.input) c.args.count c.new-entries.result (ap g.B.Read.remaining c.new-entries.ensures.input) c.new-entries.ensures.left

pub loop-index-preserved : goal.loop-index-preserved
loop-index-preserved g c =
    let step = rw c.in-Some-Ok.field-0-is at c.in-Some-Ok.ensures.steps in
    one_passed (λ s. s.left) (λ s. g.B.Read.remaining s.input) (g.B.Read.remaining c.args.input) c.args.count c.loop-index.entries c.next.new.self c.loop-index.index c.loop-index.last (c.in-Some-Ok.key, c.in-Some-Ok.field-0-0-1) c.loop-index.invariant step (c.if-not-is_next.ensures.greater refl)

pub returns-in-None-clause-ok : goal.returns-in-None-clause-ok
returns-in-None-clause-ok g c =
    all_passed (λ s. s.left) (λ s. g.B.Read.remaining s.input) (g.B.Read.remaining c.args.input) c.args.count c.loop-index.entries c.loop-index.index c.loop-index.last c.loop-index.invariant c.in-None.ensures.steps

pub returns-then-not-is_next-clause-err : goal.returns-then-not-is_next-clause-err
returns-then-not-is_next-clause-err g c =
    let step = rw c.in-Some-Ok.field-0-is at c.in-Some-Ok.ensures.steps in
    one_stopped (λ s. s.left) (λ s. g.B.Read.remaining s.input) (g.B.Read.remaining c.args.input) c.args.count c.loop-index.entries c.next.new.self c.loop-index.index c.loop-index.last (c.in-Some-Ok.key, c.in-Some-Ok.field-0-0-1) c.loop-index.invariant step (c.if-not-is_next.ensures.not_greater refl)

pub returns-clause-ok : goal.returns-clause-ok
returns-clause-ok g c =
    count_passed (λ s. s.left) (λ s. g.B.Read.remaining s.input) (g.B.Read.remaining c.args.input) c.args.count c.loop-index.entries c.loop-index.index c.loop-index.last c.loop-index.invariant c.loop-index-test.false
