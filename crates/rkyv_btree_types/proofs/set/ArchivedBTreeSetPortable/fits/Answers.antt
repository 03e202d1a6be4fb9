use Rattle.rkyv_btree_types.proofs.set.ArchivedBTreeSetPortable.fits.Goals as goal

pub returns : goal.returns
returns g c = c.fits.ensures
