-- Writes keep the keys.
use Rattle.rkyv_btree_strict.proofs.Stays.{puts_keep, sets_keep}
use Rattle.rkyv_btree_strict.proofs.strict_laws.writes_keep_strict_maps.Goals as goal

pub returns-clause-puts : goal.returns-clause-puts
returns-clause-puts g c = puts_keep g.K.Portable.kind g.V.Portable.kind g.row.E

pub returns-clause-sets : goal.returns-clause-sets
returns-clause-sets g c = sets_keep g.K.Portable.kind g.V.Portable.kind g.row.E
