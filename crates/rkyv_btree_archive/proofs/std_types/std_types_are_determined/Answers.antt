use Rattle.rkyv_btree_writing_laws.proofs.Determined.{tree_determined}
use Rattle.rkyv_btree_writing_laws.specs.Sets.{unit_archival}
use Rattle.rkyv_btree_format.specs.Units.{with_units}
use Rattle.rkyv_btree_archive.proofs.OneArchival.{own_determined}
use Rattle.rkyv_btree_portable.specs.laws.Natives.{unit_faithful}
use Rattle.rkyv_btree_archive.proofs.std_types.std_types_are_determined.Goals as goal

pub returns-clause-maps : goal.returns-clause-maps
returns-clause-maps g c k v = tree_determined 5 g.KU.Archive.archival g.VU.Archive.archival k v (λ map. map.entries)

pub returns-clause-sets : goal.returns-clause-sets
returns-clause-sets g c k = tree_determined 5 g.KU.Archive.archival unit_archival k (own_determined _ _ _ _ _ unit_faithful.one_own) (λ set. with_units set.keys)
