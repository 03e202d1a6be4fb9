-- The map has one type.
use Rattle.std.proofs.Common.{◌≡◌}
use Rattle.rkyv_btree_ffi.proofs.reading.rkyv_btree_next.Goals as goal

pub returns-in-Some-batch_at-clause-batch : goal.returns-in-Some-batch_at-clause-batch
returns-in-Some-batch_at-clause-batch c = λ t is ok. let same : t ≡ c.in-Some.map_type = cc in rw same c.in-Some-batch_at.ensures.batch
