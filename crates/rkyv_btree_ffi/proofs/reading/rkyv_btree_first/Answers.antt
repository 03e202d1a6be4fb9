-- The map has one type.
use Rattle.std.proofs.Common.{◌≡◌, refl}
use Rattle.rkyv_btree_ffi.proofs.reading.rkyv_btree_first.Goals as goal

pub returns-clause-place : goal.returns-clause-place
returns-clause-place c = λ t is. let same : t ≡ c.in-Some.map_type = cc in rw same c.first_at.ensures.place

pub returns-clause-all : goal.returns-clause-all
returns-clause-all c = λ t is. let same : t ≡ c.in-Some.map_type = cc in rw same (refl, c.first_at.ensures.all)
