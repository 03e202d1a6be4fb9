use Rattle.rkyv_btree_archive.proofs.build_set.ArchivedBTreeSetBuildSet.write_root.Goals as goal

pub returns-clause-ok : goal.returns-clause-ok
returns-clause-ok g c = c.write_root.ensures.ok

pub returns-clause-err : goal.returns-clause-err
returns-clause-err g c = c.write_root.ensures.err
