-- Neighbours decide the order.
use Rattle.rkyv_btree_strict.proofs.Ordered.{each_is_greater, increasing_of_each, not_both, one_index}
use Rattle.rkyv_btree_strict.proofs.strict_laws.neighbours_decide_order.Goals as goal

pub returns-clause-each : goal.returns-clause-each
returns-clause-each g c = each_is_greater g.met.K.ViewOrd.total

pub returns-clause-all : goal.returns-clause-all
returns-clause-all g c = increasing_of_each g.met.K.ViewOrd.total

pub returns-clause-never_both : goal.returns-clause-never_both
returns-clause-never_both g c = not_both g.met.K.ViewOrd.total

pub returns-clause-one_index : goal.returns-clause-one_index
returns-clause-one_index g c = one_index g.met.K.ViewOrd.total
