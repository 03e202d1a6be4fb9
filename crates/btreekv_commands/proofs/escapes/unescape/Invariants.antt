use Rattle.std.proofs.Common.{◌≡◌, ◌++◌, length}
use Rattle.btreekv_commands.specs.Escapes.{escape}
use Rattle.btreekv_commands.proofs.escapes.unescape.Given as goal

-- the bytes before the rest are the escape of the text so far
abbrev pub invariant-loop-rest : goal.invariant-loop-rest
invariant-loop-rest l = l.fn.bytes ≡ escape l.text.items ++ l.rest

abbrev pub decreases-loop-rest : goal.decreases-loop-rest
decreases-loop-rest l = length l.rest
