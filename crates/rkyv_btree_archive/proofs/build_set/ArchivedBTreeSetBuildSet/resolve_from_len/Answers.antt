use Rattle.rkyv_btree_archive.proofs.build_set.ArchivedBTreeSetBuildSet.resolve_from_len.Goals as goal

pub returns : goal.returns
returns g c = record { filled = c.resolve_from_len.ensures.filled }
