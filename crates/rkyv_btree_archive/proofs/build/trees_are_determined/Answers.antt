use Rattle.rkyv_btree_writing_laws.proofs.Determined.{builds_alike}
use Rattle.rkyv_btree_archive.proofs.build.trees_are_determined.Goals as goal

pub returns : goal.returns
returns g c = builds_alike _ _ _
