-- What was checked is viewed.
use Rattle.rkyv_btree_strict.proofs.Opened.{access_ok, access_err}
use Rattle.rkyv_btree_strict.proofs.strict.access_strict.Goals as goal

pub returns-in-Ok-clause-exact : goal.returns-in-Ok-clause-exact
returns-in-Ok-clause-exact g c = access_ok _ _ _ c.args.buf.now _ _ _ (rw c.in-Ok.is at c.check_strict.ensures)

pub returns-in-Err-clause-exact : goal.returns-in-Err-clause-exact
returns-in-Err-clause-exact g c = access_err _ _ _ c.args.buf.now _ _ (rw c.in-Err.is at c.check_strict.ensures)
