-- Each turn leaves fewer entries.
use Rattle.std.proofs.Common.{length}
use Rattle.callers.proofs.editing.double_along.Given as goal
use Rattle.rkyv_btree.specs.Cursor.{remaining_places}

abbrev pub decreases-loop-cursor : goal.decreases-loop-cursor
decreases-loop-cursor l = length (remaining_places l.cursor)
