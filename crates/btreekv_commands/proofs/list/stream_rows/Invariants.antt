use Rattle.std.proofs.Common.{map}
use Rattle.std.specs.Io.KnownBytes.{Appends}
use Rattle.std.specs.Iterator.{Yields, IsFinite, size}
use Rattle.rkyv_btree_view.specs.View.{view_entry}
use Rattle.btreekv_commands.specs.CsvRecords.{rows_text}
use Rattle.btreekv_commands.proofs.list.stream_rows.Given as goal

-- the records so far are written
abbrev pub invariant-loop-key : goal.invariant-loop-key
invariant-loop-key g l =
    g.I.Iterator.can_next l.entries × IsFinite (g.I.Iterator.remaining l.entries)
    × ((items : _) × Yields g.I.Iterator.next_gives l.fn.entries items l.entries
    × Appends (g.W.Write.contents l.fn.output) (g.W.Write.contents l.output) (rows_text l.fn.table (map view_entry items)))

abbrev pub decreases-loop-key : goal.decreases-loop-key
decreases-loop-key g l = size (g.I.Iterator.remaining l.entries)
