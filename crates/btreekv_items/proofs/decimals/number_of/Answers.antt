use Rattle.std.proofs.Common.{rules}
use Rattle.btreekv_items.proofs.decimals.number_of.Goals as goal

pub returns-else-is_written-clause-none : goal.returns-else-is_written-clause-none
returns-else-is_written-clause-none g c =
    (c.parse.result, c.parse.ensures.value, rw c.in-Ok.is (λ same. let h = c.is_written.ensures.1 same in search (rules, h)))
