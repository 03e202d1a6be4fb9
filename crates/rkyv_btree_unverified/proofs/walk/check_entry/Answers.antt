-- Key and value have types that fit, and are refused where they stand.
use Rattle.rkyv_btree_format.proofs.Sizes.{room_of}
use Rattle.rkyv_btree_unverified.proofs.walk.check_entry.Goals as goal

pub check_at-requires : goal.check_at-requires
check_at-requires g c = (room_of _ _ _ g.met.K.Portable.laws g.met.V.Portable.laws c.requires.fitting).key

pub check_at-requires-in-Ok : goal.check_at-requires-in-Ok
check_at-requires-in-Ok g c = (room_of _ _ _ g.met.K.Portable.laws g.met.V.Portable.laws c.requires.fitting).value
