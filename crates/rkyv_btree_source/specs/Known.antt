-- What is known of the bytes of a source: nothing, all of them, or how many there are and those of some pieces.
use Rattle.std.specs.Prelude.{◌≡◌, ℕ, ◌+◌, ◌≤◌, List, length, Contains}
use Rattle.rkyv_btree_portable.specs.Bytes.{bytes_at}
use Rattle.rkyv_btree_source.specs.declared.piece.Piece.{Piece}
use Rattle.rkyv_btree_source.specs.declared.piece.Missing.{Missing}

pub data Known : Type 0 where
  nothing : Known
  whole : List ℕ → Known
  pieces : ℕ → List Piece → List ℕ → Known

-- a piece is in the buffer c, and it is a part of b
pub record IsPiece (b c : List ℕ) (piece : Piece) : Type 0 where
  pub inside : piece.pos + piece.len ≤ length b
  pub same : bytes_at c piece.start piece.len ≡ bytes_at b piece.pos piece.len

-- the bytes of a source may be b
abbrev pub AreOf : Known → List ℕ → Type 0
AreOf nothing b = ⊥
AreOf (whole c) b = c ≡ b
AreOf (pieces size all c) b = (size ≡ length b) × ((piece : Piece) → Contains all piece → piece.start + piece.len ≤ length c → IsPiece b c piece)

-- a piece in a buffer of so many bytes has all bytes of a part
pub record Covers (room : ℕ) (piece : Piece) (at len : ℕ) : Type 0 where
  pub held : piece.start + piece.len ≤ room
  pub starts : piece.pos ≤ at
  pub ends : at + len ≤ piece.pos + piece.len

-- all bytes that the pieces may be of have a part, and no piece has all of it
pub record IsLeftOut (size : ℕ) (all : List Piece) (c : List ℕ) (part : Missing) : Type 0 where
  pub inside : (b : List ℕ) → AreOf (pieces size all c) b → part.pos + part.len ≤ length b
  pub held : (piece : Piece) → Contains all piece → Covers (length c) piece part.pos part.len → ⊥

-- a part is missing where the source has it and no piece does. A source that has no pieces says nothing
abbrev pub IsMissing : Known → Missing → Type 0
IsMissing nothing part = Unit {0}
IsMissing (whole c) part = Unit {0}
IsMissing (pieces size all c) part = IsLeftOut size all c part
