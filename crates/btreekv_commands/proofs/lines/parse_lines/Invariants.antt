use Rattle.std.proofs.Common.{map, length}
use Rattle.btreekv_commands.specs.Texts.{texts_of}
use Rattle.btreekv_commands.proofs.Splitting.{ReadLines}
use Rattle.btreekv_commands.proofs.lines.parse_lines.Given as goal

-- the lines before the rest are the entries so far
abbrev pub invariant-loop-rest : goal.invariant-loop-rest
invariant-loop-rest l = ReadLines l.bytes l.rest (map texts_of l.entries.items)

abbrev pub decreases-loop-rest : goal.decreases-loop-rest
decreases-loop-rest l = length l.rest
