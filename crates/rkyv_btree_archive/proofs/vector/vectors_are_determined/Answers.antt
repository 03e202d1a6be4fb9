use Rattle.rkyv_btree_archive.proofs.VectorsDetermined.{vectors_determined}
use Rattle.rkyv_btree_archive.proofs.vector.vectors_are_determined.Goals as goal

pub returns : goal.returns
returns g c d = vectors_determined g.T.Archive.archival d (λ elements. elements.items)
