use Rattle.rkyv_btree_verify.specs.mirror.Check.{check_leaf}
use Rattle.std.proofs.Common.{rules}
use Rattle.rkyv_btree_verify.proofs.verify.check_leaf.Goals as goal

pub returns-then-n-clause-gives : goal.returns-then-n-clause-gives
unfolding check_leaf
returns-then-n-clause-gives g c = search rules
