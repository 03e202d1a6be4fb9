use Rattle.rkyv_btree_archive.specs.EntryArchival.{both_now}
use Rattle.rkyv_btree_archive.proofs.OneArchival.{entry_determined}
use Rattle.rkyv_btree_archive.proofs.util.entries_are_determined.Goals as goal

pub returns : goal.returns
returns g c = entry_determined _ _ both_now
