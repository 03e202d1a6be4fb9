use Rattle.std.proofs.Common.{◌≤◌, ◌-◌}
use Rattle.btreearc_lines.specs.Reading.{ReadDigits}
use Rattle.btreearc_lines.proofs.lines.digits_in.Given as goal

abbrev pub invariant-loop-len : goal.invariant-loop-len
invariant-loop-len l = ReadDigits l.bytes l.len l.value × (l.len ≤ l.most)

abbrev pub decreases-loop-len : goal.decreases-loop-len
decreases-loop-len l = l.most - l.len
