use Rattle.std.proofs.Common.{◌+◌, ◌*◌, ◌-◌, get_or, arith}
use Rattle.btreearc_lines.specs.Reading.{ReadDigits}
use Rattle.btreearc_lines.proofs.Digits.{read-bound, read-more}
use Rattle.btreearc_lines.proofs.lines.digits_in.Goals as goal

pub overflow_mul-value : goal.overflow_mul-value
overflow_mul-value c = omega (arith, read-bound _ _ _ c.loop-len.invariant.0)

pub overflow_add-value : goal.overflow_add-value
overflow_add-value c = omega (arith, read-bound _ _ _ c.loop-len.invariant.0, c.in-Some.ensures.found.1, c.in-Some.ensures.found.0.1)

pub loop-len-preserved : goal.loop-len-preserved
loop-len-preserved c =
    let room = c.loop-len-test.true in
    let more : ReadDigits c.args.bytes.now (c.loop-len.len + 1) (c.loop-len.value * 10 + (get_or c.args.bytes.now c.loop-len.len 0 - 48)) =
    read-more c.args.bytes.now c.loop-len.len c.loop-len.value c.loop-len.invariant.0 (omega (arith, room, c.requires.most.within)) c.in-Some.ensures.found.0 (omega (arith, room, c.requires.most.few)) in
    (rw c.in-Some.ensures.found.1 more, omega (arith, room))
