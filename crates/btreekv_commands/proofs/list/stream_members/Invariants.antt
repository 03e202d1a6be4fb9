use Rattle.std.proofs.Common.{◌≡◌, map}
use Rattle.std.specs.Io.KnownBytes.{Appends}
use Rattle.std.specs.Iterator.{Yields, IsFinite, size}
use Rattle.rkyv_btree_view.specs.View.{view_entry}
use Rattle.btreekv_commands.specs.Json.{members}
use Rattle.btreekv_commands.proofs.JsonTexts.{separator}
use Rattle.btreekv_commands.proofs.list.stream_members.Given as goal

-- the members so far are written, and what comes before the next one is known
abbrev pub invariant-loop-key : goal.invariant-loop-key
invariant-loop-key g l =
    g.I.Iterator.can_next l.entries × IsFinite (g.I.Iterator.remaining l.entries)
    × ((items : _) × Yields g.I.Iterator.next_gives l.fn.entries items l.entries
    × Appends (g.W.Write.contents l.fn.output) (g.W.Write.contents l.output) (members (map view_entry items))
    × (l.separator ≡ separator (map view_entry items)))

abbrev pub decreases-loop-key : goal.decreases-loop-key
decreases-loop-key g l = size (g.I.Iterator.remaining l.entries)
