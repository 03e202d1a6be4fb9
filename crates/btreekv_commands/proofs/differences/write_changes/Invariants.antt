use Rattle.std.proofs.Common.{◌≡◌, ◌++◌, map, string_bytes}
use Rattle.std.specs.Iterator.{Yields, IsFinite, size}
use Rattle.btreekv_commands.specs.Changing.{changes_text, lent_change}
use Rattle.btreekv_commands.proofs.differences.write_changes.Given as goal

abbrev pub invariant-loop-key : goal.invariant-loop-key
invariant-loop-key g l =
    g.I.Iterator.can_next l.changes × IsFinite (g.I.Iterator.remaining l.changes)
    × ((items : _) × Yields g.I.Iterator.next_gives l.fn.changes items l.changes ×
    (string_bytes l.out ≡ string_bytes l.fn.out ++ changes_text (map lent_change items)))

abbrev pub decreases-loop-key : goal.decreases-loop-key
decreases-loop-key g l = size (g.I.Iterator.remaining l.changes)
