use Rattle.std.proofs.Common.{◌≡◌, ◌++◌, map, string_bytes}
use Rattle.std.specs.Iterator.{Yields, IsFinite, size}
use Rattle.rkyv_btree_portable.specs.Scalars.{u32_kind}
use Rattle.btreearc_lines.specs.Grammar.{text_of}
use Rattle.btreearc_commands.proofs.listing.write_entries.Given as goal

abbrev pub invariant-loop-key : goal.invariant-loop-key
invariant-loop-key g l =
    g.I.Iterator.can_next l.entries × IsFinite (g.I.Iterator.remaining l.entries)
    × ((items : _) × Yields g.I.Iterator.next_gives l.fn.entries items l.entries × (string_bytes l.out ≡ string_bytes l.fn.out ++ text_of (map (λ e. (u32_kind.read e.0.buf.now e.0.pos, u32_kind.read e.1.buf.now e.1.pos)) items)))

abbrev pub decreases-loop-key : goal.decreases-loop-key
decreases-loop-key g l = size (g.I.Iterator.remaining l.entries)
