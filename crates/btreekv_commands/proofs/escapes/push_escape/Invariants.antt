use Rattle.std.proofs.Common.{◌≡◌, ◌++◌, take}
use Rattle.btreekv_commands.specs.Escapes.{escape}
use Rattle.btreekv_commands.proofs.escapes.push_escape.Given as goal

abbrev pub invariant-loop-byte : goal.invariant-loop-byte
invariant-loop-byte l = l.out.items ≡ l.fn.out.items ++ escape (take l.byte-index l.text)
