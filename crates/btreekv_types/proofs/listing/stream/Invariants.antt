use Rattle.std.proofs.Common.{◌≡◌, map}
use Rattle.std.specs.Io.KnownBytes.{Appends}
use Rattle.std.specs.Iterator.{Yields, IsFinite, size}
use Rattle.btreekv_types.specs.Listing.{is_none, list_body}
use Rattle.btreekv_types.specs.Typed.{texts_shown}
use Rattle.btreekv_types.proofs.listing.stream.Given as goal

-- the entries so far are written
abbrev pub invariant-loop-key : goal.invariant-loop-key
invariant-loop-key g l =
    g.I.Iterator.can_next l.entries × IsFinite (g.I.Iterator.remaining l.entries)
    × ((items : _) × Yields g.I.Iterator.next_gives l.fn.entries items l.entries
    × Appends (g.W.Write.contents l.fn.output) (g.W.Write.contents l.output) (list_body l.fn.form (map (texts_shown (g.K.Item.spelling l.fn.style) g.K.Item.value_at (g.V.Item.spelling l.fn.style) g.V.Item.value_at) items))
    × (l.is_first ≡ is_none (map (texts_shown (g.K.Item.spelling l.fn.style) g.K.Item.value_at (g.V.Item.spelling l.fn.style) g.V.Item.value_at) items)))

abbrev pub decreases-loop-key : goal.decreases-loop-key
decreases-loop-key g l = size (g.I.Iterator.remaining l.entries)
