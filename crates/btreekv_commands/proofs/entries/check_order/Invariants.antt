use Rattle.btreekv_commands.proofs.Ordering.{PassedAll}
use Rattle.btreekv_commands.proofs.entries.check_order.Given as goal

-- the keys so far increase
abbrev pub invariant-loop-index : goal.invariant-loop-index
invariant-loop-index g l = PassedAll (λ s. s.left) (λ s. g.B.Read.remaining s.input) (g.B.Read.remaining l.fn.input) l.fn.count l.entries l.index l.last
