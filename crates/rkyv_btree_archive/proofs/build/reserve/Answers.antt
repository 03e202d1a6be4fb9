use Rattle.std.proofs.Common.{◌≤◌, arith}
use Rattle.std.proofs.Math.Nat.{mul-le-mul_left}
use Rattle.rkyv_btree_format.proofs.Sizes.{room_of}
use Rattle.rkyv_btree_archive.proofs.build.reserve.Goals as goal

pub overflow_mul-waiting : goal.overflow_mul-waiting
overflow_mul-waiting g c =
    let room = room_of g.K.Portable.kind g.V.Portable.kind g.row.E g.met.K.Portable.laws g.met.V.Portable.laws c.requires.fitting in
    let few : c.args.above ≤ 31 = omega (arith, c.requires.few) in
    omega (arith, mul-le-mul_left g.row.E few, room.entries)
