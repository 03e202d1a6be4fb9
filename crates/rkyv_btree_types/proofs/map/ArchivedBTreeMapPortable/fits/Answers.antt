use Rattle.rkyv_btree_types.proofs.map.ArchivedBTreeMapPortable.fits.Goals as goal

pub returns : goal.returns
returns g c = c.fits.ensures
