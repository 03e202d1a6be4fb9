use Rattle.rkyv_btree_verify.specs.mirror.Counted.{tree_steps}
use Rattle.rkyv_btree_verify.specs.mirror.Check.{check_tree}
use Rattle.std.proofs.Common.{rules}
use Rattle.rkyv_btree_verify.proofs.verify.check_tree.Goals as goal

pub returns-clause-gives : goal.returns-clause-gives
unfolding check_tree tree_steps
returns-clause-gives g c = search rules

pub returns-clause-counts : goal.returns-clause-counts
unfolding check_tree tree_steps
returns-clause-counts g c = search rules
