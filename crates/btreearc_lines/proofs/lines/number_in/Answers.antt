-- Fewer than ten digits are a number of 32 bits. Of ten, an eleventh and the value are tested.
use Rattle.std.proofs.Common.{arith, rules}
use Rattle.btreearc_lines.proofs.Digits.{number_read, short-bound, too_great, too_many}
use Rattle.btreearc_lines.proofs.lines.number_in.Goals as goal

pub overflow_cast-result : goal.overflow_cast-result
overflow_cast-result c = let short = short-bound _ _ _ c.digits_in-value.ensures.digits c.if-len-lt-MOST_DIGITS.true in search rules

pub returns-then-len-lt-MOST_DIGITS-clause-found : goal.returns-then-len-lt-MOST_DIGITS-clause-found
returns-then-len-lt-MOST_DIGITS-clause-found c =
    let read = c.digits_in-value.ensures.digits in
    let short = c.if-len-lt-MOST_DIGITS.true in
    number_read _ _ _ read (c.digits_in-value.ensures.end short) (omega (arith, c.if-len-eq0.false)) (short-bound _ _ _ read short)

pub returns-then-is_digit_at-clause-none : goal.returns-then-is_digit_at-clause-none
returns-then-is_digit_at-clause-none c n rest p =
    too_many c.args.bytes.now c.digits_in-value.result.1 c.digits_in-value.result.0 n rest c.digits_in-value.ensures.digits (omega (arith, c.if-len-lt-MOST_DIGITS.false)) (c.is_digit_at.ensures.digit c.if-is_digit_at.true) p

pub returns-then-value-gt4294967295-clause-none : goal.returns-then-value-gt4294967295-clause-none
returns-then-value-gt4294967295-clause-none c n rest p =
    too_great c.args.bytes.now c.digits_in-value.result.1 c.digits_in-value.result.0 n rest c.digits_in-value.ensures.digits (c.is_digit_at.ensures.other c.if-is_digit_at.false) c.if-value-gt4294967295.true p
