use Rattle.btreearc_lines.proofs.Pairs.{no_space, no_value}
use Rattle.btreearc_lines.proofs.lines.first_pair.Goals as goal

pub returns-in_default-clause-none : goal.returns-in_default-clause-none
returns-in_default-clause-none c x rest e = c.in_default.ensures.none x.0 e.space e.key

pub returns-in_default-after_space-clause-none : goal.returns-in_default-after_space-clause-none
returns-in_default-after_space-clause-none c = no_space _ _ _ c.in-Some.ensures.found c.in_default-after_space.ensures.none

pub returns-in_default-first_number-clause-none : goal.returns-in_default-first_number-clause-none
returns-in_default-first_number-clause-none c = no_value _ _ _ _ c.in-Some.ensures.found c.in-Some-after_space.ensures.found c.in_default-first_number.ensures.none
