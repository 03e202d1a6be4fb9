-- A number is at the front of its own digits, with nothing after it.
use Rattle.std.proofs.Common.{◌≡◌, [], sym, rules}
use Rattle.btreearc_lines.proofs.Digits.{number_once, whole_first, if_none}
use Rattle.btreearc_lines.proofs.lines.whole_number.Goals as goal

pub returns-in_err-number-clause-none : goal.returns-in_err-number-clause-none
returns-in_err-number-clause-none c = if_none c.from_residual.result (λ n is. c.in_err-number.ensures.none n _ (whole_first _ n (rw c.as_bytes.ensures.value is)))

pub returns-else-is_empty-clause-none : goal.returns-else-is_empty-clause-none
returns-else-is_empty-clause-none c n is =
    let same = (number_once c.as_bytes.result.now n c.in_ok-number.number _ _ (whole_first _ n (rw c.as_bytes.ensures.value is)) c.in_ok-number.ensures.found).1 in
    let rest : c.in_ok-number.rest.now ≡ [] = sym same in
    absurd (search rules)
