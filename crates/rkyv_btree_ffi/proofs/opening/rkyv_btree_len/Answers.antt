-- The map has one type.
use Rattle.std.proofs.Common.{◌≡◌, refl}
use Rattle.rkyv_btree_ffi.proofs.opening.rkyv_btree_len.Goals as goal

pub returns-clause-len : goal.returns-clause-len
returns-clause-len c = λ t is. let same : t ≡ c.in-Some.map_type = cc in rw same (refl, c.count_at.ensures)
