-- How text is archived: its bytes, which come before its own, and then the offset to them and their number.
use Rattle.std.specs.Prelude.{◌≡◌, ℕ, ◌+◌, ◌≤◌, ◌<◌, true, List, [], ◌∷◌, ◌++◌, length, IsUtf8}
use Rattle.std.specs.Int.{w32, to_le_bytes}
use Rattle.rkyv_btree_writer.specs.Archiving.{Archival}
use Rattle.rkyv_btree_writer.specs.Fields.{a_length, a_pointer}
use Rattle.rkyv_btree_writer.specs.Pointers.{FitsOffset, pointer}
use Rattle.rkyv_btree_portable.specs.Text.{text_kind}
use Rattle.rkyv_btree_writer.specs.Writing.{Write, last_end}

-- the one write of a text's bytes
abbrev pub text_writes : List ℕ → List Write
text_writes text = record { bytes = text; reaches = true } ∷ []

-- the own bytes, at a position, of a text that starts at a position and has so many bytes
abbrev pub text_own : ℕ → ℕ → ℕ → List ℕ
text_own at start len = pointer at start ++ to_le_bytes w32 len

-- what these bytes need
abbrev pub FitsText : ℕ → ℕ → ℕ → Type 0
FitsText at start len = FitsOffset at start × (len ≤ 4294967295)

-- values that are texts, each by its bytes: serialising tells where they start. A write of no bytes is refused only
-- where it would stand past the last position
abbrev pub text_archival : {X : Type 0} → (X → List ℕ) → Archival X ℕ
text_archival text = record {
  kind = text_kind;
  meaning = text;
  IsIn = λ x. IsUtf8 (text x);
  Writes = λ x from writes start. (start ≡ from) × (writes ≡ text_writes (text x));
  Begins = λ x from writes. (writes ≡ text_writes (text x)) × (text x ≡ [] → last_end < from);
  Resolves = λ x start at own. FitsText at start (length (text x)) × (own ≡ text_own at start (length (text x)));
  fields = λ x start at. a_length (at + 4) (length (text x)) ∷ a_pointer at start ∷ [];
  lengths = λ x. length (text x) ∷ [];
  Grows = λ x. ⊥;
  Refuses = λ x from fault. ⊥;
}
