-- The map has one type.
use Rattle.std.proofs.Common.{◌≡◌, refl}
use Rattle.std.specs.Prelude.{Err}
use Rattle.rkyv_btree_ffi.proofs.editing.rkyv_btree_open_edit.Goals as goal

pub returns-in-Err-clause-opens : goal.returns-in-Err-clause-opens
returns-in-Err-clause-opens c = λ t is. let same : t ≡ c.in-Some.at = cc in rw same (Err c.in-Err.why, c.in-Err.ensures, (refl, c.refusal_of.ensures.refusal, refl, refl))
