-- No piece before the next one has the part.
use Rattle.std.proofs.Common.{◌≡◌, ◌<◌, ℕ, length, slice_index_or}
use Rattle.rkyv_btree_source.specs.Known.{Covers}
use Rattle.rkyv_btree_source.specs.declared.piece.Piece.{Piece as Held}
use Rattle.rkyv_btree_source.proofs.pieces.Pieces.place.Given as goal

abbrev pub invariant-all : goal.invariant-all
invariant-all l = (k : ℕ) → k < l.piece-index → (piece : Held) → slice_index_or l.self.pieces.now k piece ≡ piece → Covers (length l.self.bytes.now) piece l.pos l.len → ⊥
