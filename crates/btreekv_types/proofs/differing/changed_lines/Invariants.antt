use Rattle.std.proofs.Common.{◌≡◌, ◌++◌, ◌+◌, ◌-◌, ◌≤◌, drop, length, string_bytes}
use Rattle.btreekv_types.specs.mirror.Differing.{lines_between}
use Rattle.btreekv_types.proofs.differing.changed_lines.Given as goal

-- what is written, and what is to come
abbrev pub invariant-entries : goal.invariant-entries
invariant-entries g l =
    (string_bytes l.out ++ lines_between g.T.Ord.cmp (drop l.from l.old) (drop l.to l.new) ≡ lines_between g.T.Ord.cmp l.old l.new)
    × (l.from ≤ length l.old) × (l.to ≤ length l.new)

abbrev pub decreases-entries : goal.decreases-entries
decreases-entries g l = length l.old + length l.new - (l.from + l.to)
