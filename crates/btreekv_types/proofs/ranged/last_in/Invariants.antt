-- The archive stays the same while the buffer grows.
use Rattle.std.proofs.Common.{◌≡◌, ◌-◌, length}
use Rattle.btreekv_types.proofs.ranged.last_in.Given as goal

abbrev pub invariant-longer : goal.invariant-longer
invariant-longer g l = (g.S.ReadAt.known l.map.reader.source ≡ g.S.ReadAt.known l.initial.map.reader.source) × (l.map.pos ≡ l.initial.map.pos)

abbrev pub decreases-longer : goal.decreases-longer
decreases-longer g l = 4294967295 - length l.room.items
