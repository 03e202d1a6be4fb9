-- A source that isn't opened is too long, or it failed.
use Rattle.std.proofs.Common.{subst, sym}
use Rattle.rkyv_btree_source.specs.Known.{AreOf, Known}
use Rattle.btreekv_commands.proofs.LookedUp.{unopened_so}
use Rattle.btreekv_commands.proofs.sourced.open.Goals as goal

pub returns-in-Err-open-clause-refused : goal.returns-in-Err-open-clause-refused
returns-in-Err-open-clause-refused g c b e =
    rw c.lookup_fault.ensures (unopened_so b c.in-Err-open.fault (c.in-Err-open.ensures.refused b (subst (λ (k : Known). AreOf k b) (sym c.in-Ok.ensures.same) e)))
