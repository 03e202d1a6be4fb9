use Rattle.rkyv_btree_archive.proofs.ArraysDetermined.{arrays_determined}
use Rattle.rkyv_btree_archive.proofs.array.arrays_are_determined.Goals as goal

pub returns : goal.returns
returns g c d = arrays_determined g.T.Archive.archival d g.row.N
