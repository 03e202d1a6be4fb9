-- A line is two numbers in one way.
use Rattle.std.proofs.Common.{[], length, ap, arith}
use Rattle.btreearc_lines.proofs.Pairs.{entry_pair, more_no_entry}
use Rattle.btreearc_lines.proofs.lines.entry_of.Goals as goal

pub returns-in_default-clause-none : goal.returns-in_default-clause-none
returns-in_default-clause-none c x is = c.in_default.ensures.none x [] (entry_pair c.args.line.now x is)

pub returns-then-rest-gt0-clause-none : goal.returns-then-rest-gt0-clause-none
returns-then-rest-gt0-clause-none c =
    more_no_entry c.args.line.now c.in-Some.entry c.in-Some.rest.now c.in-Some.ensures.found (λ none. omega (arith, c.if-rest-gt0.true, ap length none))
