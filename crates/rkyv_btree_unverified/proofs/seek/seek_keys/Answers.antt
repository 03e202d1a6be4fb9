-- Keys have a type that fits.
use Rattle.rkyv_btree_format.proofs.Sizes.{room_of}
use Rattle.rkyv_btree_unverified.proofs.seek.seek_keys.Goals as goal

pub reaches-requires : goal.reaches-requires
reaches-requires g c = (room_of _ _ _ g.met.K.Portable.laws g.met.V.Portable.laws c.requires.fitting).key
