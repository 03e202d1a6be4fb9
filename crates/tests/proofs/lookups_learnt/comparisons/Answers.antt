-- The comparison is that of numbers.
use Rattle.std.proofs.Common.{rules, arith}
use Rattle.std.specs.Ordering.{nat_cmp}
use Rattle.tests.proofs.lookups_learnt.comparisons.Goals as goal

pub returns : goal.returns
returns c =
    let few = c.get_key_value_counted.ensures.few nat_cmp (λ q w r e. search rules) in
    omega (arith, few, c.count.ensures, c.new-steps.ensures)
