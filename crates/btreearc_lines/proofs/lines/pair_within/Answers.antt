use Rattle.std.proofs.Common.{List, ℕ, get_or, ap}
use Rattle.btreearc_lines.proofs.Pairs.{no_space, no_value, space_first}
use Rattle.btreearc_lines.proofs.lines.pair_within.Goals as goal

pub returns-in_default-clause-none : goal.returns-in_default-clause-none
returns-in_default-clause-none c x rest e = c.in_default.ensures.none x.0 e.space e.key

pub returns-then-space-ne32-clause-none : goal.returns-then-space-ne32-clause-none
returns-then-space-ne32-clause-none c = no_space _ _ _ c.in-Some.ensures.found (λ rest is. c.if-space-ne32.true (ap (λ (l : List ℕ). get_or l 0 0) is))

pub returns-in_default-number_in-clause-none : goal.returns-in_default-number_in-clause-none
returns-in_default-number_in-clause-none c = no_value _ _ _ _ c.in-Some.ensures.found (space_first c.in-Some.space.now c.if-space-ne32.false) c.in_default-number_in.ensures.none
