-- So far 10 was added to the entries that the cursor has passed.
use Rattle.std.proofs.Common.{◌≡◌, [], length}
use Rattle.examples.proofs.Adding.{Adding}
use Rattle.examples.proofs.editing.add_ten.Given as goal
use Rattle.rkyv_btree.specs.Cursor.{remaining_places}

abbrev pub invariant-along : goal.invariant-along
invariant-along l =
    record {
      reference : l.cursor.buf.ghost_name ≡ l.initial.cursor.buf.ghost_name;
      position : l.cursor.pos ≡ l.initial.cursor.pos;
      adding : Adding l.initial.cursor.buf.now l.cursor.pos [] [] l.cursor.buf.now (remaining_places l.cursor);
    }

abbrev pub decreases-along : goal.decreases-along
decreases-along l = length (remaining_places l.cursor)
