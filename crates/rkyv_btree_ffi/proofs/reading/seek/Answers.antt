-- The map has one type.
use Rattle.std.proofs.Common.{◌≡◌, refl}
use Rattle.rkyv_btree_ffi.proofs.reading.seek.Goals as goal

pub returns-clause-place : goal.returns-clause-place
returns-clause-place c = λ t is. let same : t ≡ c.in-Some.map_type = cc in rw same c.sought_at.ensures.place

pub returns-clause-from : goal.returns-clause-from
returns-clause-from c = λ t is. let same : t ≡ c.in-Some.map_type = cc in rw same (refl, c.sought_at.ensures.from)
