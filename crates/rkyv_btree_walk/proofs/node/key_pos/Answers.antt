-- A key stands within its node.
use Rattle.std.proofs.Common.{arith, refl}
use Rattle.rkyv_btree_format.proofs.Sizes.{sound_of, key_inside}
use Rattle.rkyv_btree_walk.proofs.node.key_pos.Goals as goal

pub overflow_add-result : goal.overflow_add-result
overflow_add-result g c =
    let sound = sound_of _ _ _ g.met.K.Portable.laws g.met.V.Portable.laws c.requires.fitting in
    let inside = key_inside _ c.args.i sound c.requires.within in
    omega arith

pub returns : goal.returns
returns g c = rw c.key_at.ensures refl
