use Rattle.btreearc_commands.proofs.Counting.{Counted}
use Rattle.btreearc_commands.proofs.entries.count_lines.Given as goal

-- the lines so far are entries, and what is known of their keys
abbrev pub invariant-loop-count : goal.invariant-loop-count
invariant-loop-count g l = Counted (g.B.Read.remaining l.initial.input) (g.B.Read.remaining l.input) l.count l.last l.first
