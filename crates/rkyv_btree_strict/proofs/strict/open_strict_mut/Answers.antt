-- The map that was opened is lent for edits.
use Rattle.rkyv_btree_strict.proofs.Opened.{opening_ok, opening_err}
use Rattle.rkyv_btree_strict.proofs.strict.open_strict_mut.Goals as goal

pub returns-in-Ok-clause-exact : goal.returns-in-Ok-clause-exact
returns-in-Ok-clause-exact g c = opening_ok _ _ _ c.args.bytes.now _ _ (rw c.in-Ok.is at c.open_strict.ensures.exact)

pub returns-in-Err-clause-exact : goal.returns-in-Err-clause-exact
returns-in-Err-clause-exact g c = opening_err _ _ _ c.args.bytes.now _ (rw c.in-Err.is at c.open_strict.ensures.exact)
