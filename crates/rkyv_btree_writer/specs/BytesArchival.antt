-- How byte strings are archived: as texts, whatever their bytes are.
use Rattle.std.specs.Prelude.{◌≡◌, ℕ, ◌+◌, ◌<◌, List, [], ◌∷◌, length}
use Rattle.rkyv_btree_portable.specs.ByteStrings.{bytes_kind}
use Rattle.rkyv_btree_writer.specs.Archiving.{Archival}
use Rattle.rkyv_btree_writer.specs.Fields.{a_length, a_pointer}
use Rattle.rkyv_btree_writer.specs.TextArchival.{text_writes, text_own, FitsText}
use Rattle.rkyv_btree_writer.specs.Writing.{last_end}

-- values that are byte strings, each by its bytes: serialising tells where they start
abbrev pub bytes_archival : {X : Type 0} → (X → List ℕ) → Archival X ℕ
bytes_archival bytes = record {
  kind = bytes_kind;
  meaning = bytes;
  IsIn = λ x. Unit {0};
  Writes = λ x from writes start. (start ≡ from) × (writes ≡ text_writes (bytes x));
  Begins = λ x from writes. (writes ≡ text_writes (bytes x)) × (bytes x ≡ [] → last_end < from);
  Resolves = λ x start at own. FitsText at start (length (bytes x)) × (own ≡ text_own at start (length (bytes x)));
  fields = λ x start at. a_length (at + 4) (length (bytes x)) ∷ a_pointer at start ∷ [];
  lengths = λ x. length (bytes x) ∷ [];
  Grows = λ x. ⊥;
  Refuses = λ x from fault. ⊥;
}
