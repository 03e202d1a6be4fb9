-- What was serialised is accepted, once the map is written after it.
use Rattle.std.specs.Prelude.{◌≡◌, ℕ, ◌+◌, ◌%◌, ◌<◌, ◌≤◌, true, List, [], ◌++◌, length}
use Rattle.rkyv_btree_portable.specs.Bytes.{Holds}
use Rattle.rkyv_btree_writing_laws.specs.Image.{root_bytes, root_reaches, root_image}
use Rattle.rkyv_btree_writing_laws.specs.Kept.{OnlyAppended}
use Rattle.rkyv_btree_portable.specs.Kind.{Kind}
use Rattle.rkyv_btree_writing_laws.specs.Serialising.{Spelled}
use Rattle.rkyv_btree_format.specs.Spells.{Accepted}
use Rattle.rkyv_btree_portable.specs.Rounding.{round_up}
use Rattle.rkyv_btree_writer.specs.Writing.{Writing, Wrote, position, last_end}

-- a buffer of at most 4294967295 bytes has room for a map at an aligned position, and holds the bytes of one there
pub record HoldsRoot (b : List ℕ) (at root len : ℕ) : Type 0 where
  pub short : length b ≤ 4294967295
  pub aligned : at % 4 ≡ 0
  pub room : at + 8 ≤ length b
  pub held : Holds b at (root_bytes at root len)

-- a buffer holds what was appended between two states, and after it a map of this length over the root node
pub record HoldsArchive (b : List ℕ) (from to : Writing) (root at len : ℕ) : Type 0 where
  pub appended : List ℕ
  pub contents : to.contents ≡ from.contents ++ appended
  pub tree : Holds b (position from) appended
  pub behind : position to ≤ at
  pub reaches : root_reaches at root len ≡ true
  pub map : HoldsRoot b at root len

-- A writer from position 0 on appended a tree, and then the map over its root node: what it holds now is that archive.
abbrev pub WrittenIsHeld : Type 0
WrittenIsHeld =
    (from mid to : Writing) (root len : ℕ) → from.base ≡ 0 → OnlyAppended from mid
    → Wrote mid (root_image (position mid) root len) to → position to ≤ last_end
    → HoldsArchive to.contents from mid root (round_up (position mid) 4) len

-- a buffer that holds a serialised tree, and after it the map with its length, is a map of the tree's list there
abbrev pub SerialisedIsAccepted : Kind → Kind → ℕ → Type 0
SerialisedIsAccepted K V E =
    (b : List ℕ) (from to : Writing) (m : List (K.Value × V.Value)) (root at : ℕ) (spelled : Spelled K V E from m root to)
    → 0 < length m → length m ≤ last_end → root_reaches at root (length m) ≡ true →
    Holds b (position from) spelled.appended → position to ≤ at → HoldsRoot b at root (length m) → (left : ℕ) × Accepted K V E b 0 at at left m

-- a buffer that holds a map of length 0 is the empty map there
abbrev pub EmptyIsAccepted : Kind → Kind → ℕ → Type 0
EmptyIsAccepted K V E = (b : List ℕ) (root at : ℕ) → HoldsRoot b at root 0 → Accepted K V E b 0 at at 0 []
