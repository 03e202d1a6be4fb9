-- The lines that were read are entries, but for the last one at an error.
use Rattle.std.proofs.Common.{sym, subst, true, List, ℕ}
use Rattle.btreearc_lines.specs.Reading.{ReadsLine}
use Rattle.btreekv_commands.proofs.Counting.{one_counted, bad_counted}
use Rattle.btreekv_commands.proofs.entries.count_lines.Goals as goal

pub returns-in_default-clause-err : goal.returns-in_default-clause-err
returns-in_default-clause-err g c =
    let before = g.B.Read.remaining c.loop-count.input in
    let after = g.B.Read.remaining c.read_line.new.input in
    let line = subst (λ (l : List ℕ). ReadsLine before true l after) (sym c.deref.ensures.value) (rw c.in-Ok-true.field-0-test at c.in-Ok-true.ensures.line) in
    bad_counted (g.B.Read.remaining c.args.input.now) before after c.deref.result.now c.loop-count.count c.loop-count.invariant line c.in_default.ensures.none

pub loop-count-preserved : goal.loop-count-preserved
loop-count-preserved g c =
    let before = g.B.Read.remaining c.loop-count.input in
    let after = g.B.Read.remaining c.read_line.new.input in
    let line = subst (λ (l : List ℕ). ReadsLine before true l after) (sym c.deref.ensures.value) (rw c.in-Ok-true.field-0-test at c.in-Ok-true.ensures.line) in
    one_counted (g.B.Read.remaining c.args.input.now) before after c.deref.result.now c.loop-count.count (c.in-Some.field-0.0.now, c.in-Some.field-0.1.now) c.loop-count.invariant line c.in-Some.ensures.found
