-- What is accepted means a list, and what is refused has that error.
use Rattle.std.proofs.lemmas.Result.{IfOk-weaker}
use Rattle.rkyv_btree_portable.proofs.Exactly.{ok_held, err_held}
use Rattle.rkyv_btree_types.proofs.set.ArchivedBTreeSetCheckBytes.check.Goals as goal

pub returns-clause-ok : goal.returns-clause-ok
returns-clause-ok g c = IfOk-weaker c.verify.result _ _ (λ left is. is.1) (ok_held _ c.verify.result c.verify.ensures.accepts)

pub returns-clause-hi : goal.returns-clause-hi
returns-clause-hi g c = IfOk-weaker c.verify.result _ _ (λ left is. is.0) (ok_held _ c.verify.result c.verify.ensures.accepts)

pub returns-clause-err : goal.returns-clause-err
returns-clause-err g c = err_held _ c.verify.result c.verify.ensures.refuses
