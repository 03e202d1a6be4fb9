use Rattle.std.proofs.Common.{◌≤◌, ◌+◌, ◌-◌, arith}
use Rattle.std.proofs.Math.Nat.{mul-le-mul_left}
use Rattle.rkyv_btree_shape.specs.Logarithm.{ilog}
use Rattle.rkyv_btree_format.proofs.Sizes.{room_of}
use Rattle.rkyv_btree_shape.proofs.Logs.{ilog_bounds, exponent_fits}
use Rattle.bench_recursion.proofs.build.waiting.Goals as goal

pub entries_to_height-requires-clause-entries : goal.entries_to_height-requires-clause-entries
entries_to_height-requires-clause-entries g c =
    let room = room_of _ _ g.row.E g.met.K.Portable.laws g.met.V.Portable.laws c.requires.fitting in
    room.some

pub entries_to_height-requires-clause-small : goal.entries_to_height-requires-clause-small
entries_to_height-requires-clause-small g c =
    let room = room_of _ _ g.row.E g.met.K.Portable.laws g.met.V.Portable.laws c.requires.fitting in
    omega (arith, room.entries)

pub overflow_mul-result : goal.overflow_mul-result
overflow_mul-result g c =
    let room = room_of _ _ g.row.E g.met.K.Portable.laws g.met.V.Portable.laws c.requires.fitting in
    let bounds = ilog_bounds g.row.E c.args.len room.some c.requires.some in
    let levels = exponent_fits g.row.E (ilog (g.row.E + 1) c.args.len) c.args.len 32 room.some bounds.0 (omega (arith, c.requires.small)) in
    let few : c.entries_to_height.result - 1 ≤ 31 = omega (arith, levels, c.entries_to_height.ensures) in
    omega (arith, mul-le-mul_left g.row.E few, room.entries)
