use Rattle.std.proofs.Common.{◌≡◌, ◌≤◌, ◌-◌, length}
use Rattle.btreekv_types.proofs.sourced.value_of.Given as goal

-- the archive is the same, and its budget no larger
abbrev pub invariant-longer : goal.invariant-longer
invariant-longer g l =
    (g.S.ReadAt.known l.map.reader.source ≡ g.S.ReadAt.known l.initial.map.reader.source)
    × (l.map.pos ≡ l.initial.map.pos) × (l.map.reader.left ≤ l.initial.map.reader.left)

abbrev pub decreases-longer : goal.decreases-longer
decreases-longer g l = 4294967295 - length l.room.items
