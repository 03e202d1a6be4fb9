-- What was read is a line.
use Rattle.std.proofs.Common.{true, sym, subst, List, ℕ}
use Rattle.btreearc_lines.specs.Grammar.{IsEntry}
use Rattle.btreearc_lines.specs.Reading.{ReadsLine}
use Rattle.btreearc_lines.proofs.Pairs.{read_as}
use Rattle.btreearc_lines.proofs.entries.read_whole.Goals as goal

pub returns-in-None-clause-next : goal.returns-in-None-clause-next
returns-in-None-clause-next g c =
    let old = g.B.Read.remaining c.args.input.now in
    let new = g.B.Read.remaining c.read_line.new.input in
    let line = subst (λ (l : List ℕ). ReadsLine old true l new) (sym c.deref.ensures.value) (rw c.in-Ok-true.field-0-test at c.in-Ok-true.ensures.line) in
    read_as (λ line. (x : ℕ × ℕ) → ¬ IsEntry line x) old new c.deref.result.now line c.in-None.ensures.none
