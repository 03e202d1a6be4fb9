use Rattle.rkyv_btree_writing_laws.proofs.Accepting.{written_is_held}
use Rattle.rkyv_btree_archive.proofs.build.written_maps_are_held.Goals as goal

pub returns : goal.returns
returns c = written_is_held
