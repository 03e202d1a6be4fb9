use Rattle.rkyv_btree_archive.proofs.build_map.ArchivedBTreeMapBuildMap.resolve_from_len.Goals as goal

pub returns : goal.returns
returns g c = record { filled = rw (← c.resolver.view_is) c.fill_root.ensures.filled }
