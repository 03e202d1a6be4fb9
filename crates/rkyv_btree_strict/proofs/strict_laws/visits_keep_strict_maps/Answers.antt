-- A visit is a run of writes.
use Rattle.rkyv_btree_strict.proofs.Stays.{visits_keep}
use Rattle.rkyv_btree_strict.proofs.strict_laws.visits_keep_strict_maps.Goals as goal

pub returns : goal.returns
returns g c = visits_keep g.K.Portable.kind g.V.Portable.kind g.row.E _
