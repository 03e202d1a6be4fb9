use Rattle.std.proofs.Common.{length, map}
use Rattle.btreekv_commands.proofs.Merges.{SoFar}
use Rattle.btreekv_commands.proofs.merging.merge.Given as goal

abbrev pub invariant-loop-next : goal.invariant-loop-next
invariant-loop-next l = SoFar l.heading l.fn.first (map (λ other. other.items) l.fn.others) (map (λ other. other.items) l.rest) l.so_far.items

abbrev pub decreases-loop-next : goal.decreases-loop-next
decreases-loop-next l = length l.rest
