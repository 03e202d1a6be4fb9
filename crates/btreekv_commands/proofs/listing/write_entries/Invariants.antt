use Rattle.std.proofs.Common.{◌≡◌, ◌++◌, map}
use Rattle.std.specs.Iterator.{Yields, IsFinite, size}
use Rattle.rkyv_btree_portable.specs.Text.{text_kind}
use Rattle.btreekv_commands.specs.Forms.{text_in}
use Rattle.btreekv_commands.proofs.listing.write_entries.Given as goal

abbrev pub invariant-loop-key : goal.invariant-loop-key
invariant-loop-key g l =
    g.I.Iterator.can_next l.entries × IsFinite (g.I.Iterator.remaining l.entries)
    × ((items : _) × Yields g.I.Iterator.next_gives l.fn.entries items l.entries × (l.out.items ≡ l.fn.out.items ++ text_in l.fn.form (map (λ e. (text_kind.read e.0.buf.now e.0.pos, text_kind.read e.1.buf.now e.1.pos)) items)))

abbrev pub decreases-loop-key : goal.decreases-loop-key
decreases-loop-key g l = size (g.I.Iterator.remaining l.entries)
