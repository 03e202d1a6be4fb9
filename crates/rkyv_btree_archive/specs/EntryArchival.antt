-- What archiving a key with its value does: the key's writes and then the value's, and the own bytes of both.
use Rattle.std.specs.Prelude.{◌≡◌, ℕ, ◌+◌, ◌⊎◌, List, ◌++◌, length}
use Rattle.rkyv_btree_writer.specs.Archiving.{Archival}
use Rattle.rkyv_btree_portable.specs.Entry.{value_offset, entry_size, entry_kind}
use Rattle.rkyv_btree_portable.specs.Bytes.{filled}
use Rattle.rkyv_btree_writer.specs.Writing.{Write, appended}
use Rattle.rkyv_btree_archive.specs.declared.util.EntryAdapter.{EntryAdapter}
use Rattle.rkyv_btree_archive.specs.declared.util.EntryResolver.{EntryResolver}

-- the key and the value to which an adapter leads
abbrev pub both_now : {M N : Type 0} → EntryAdapter M N → M × N
both_now x = (x.key.now, x.value.now)

module _ {M N R S : Type 0} (K : Archival M R) (V : Archival N S) where
  -- the key's writes from a position on, then the value's from where these end
  pub record EntryWrites (x : M × N) (from : ℕ) (writes : List Write) (r : EntryResolver R S) : Type 0 where
    pub first : List Write
    pub second : List Write
    pub key : K.Writes x.0 from first r.key
    pub value : V.Writes x.1 (from + length (appended first)) second r.value
    pub both : writes ≡ first ++ second

  -- what the key begins to write; or all that it writes, and then what the value begins to write
  pub data EntryBegins (x : M × N) (from : ℕ) : List Write → Type 0 where
    in_key : {writes : List Write} → K.Begins x.0 from writes → EntryBegins x from writes
    in_value : {first second : List Write} {r : R} → K.Writes x.0 from first r
        → V.Begins x.1 (from + length (appended first)) second → EntryBegins x from (first ++ second)

  -- the key's own bytes, then the value's at its place, and zeros wherever nothing stands
  pub record EntryResolves (x : M × N) (r : EntryResolver R S) (at : ℕ) (own : List ℕ) : Type 0 where
    pub own_key : List ℕ
    pub own_value : List ℕ
    pub key : K.Resolves x.0 r.key at own_key
    pub value : V.Resolves x.1 r.value (at + value_offset K.kind V.kind) own_value
    pub parts : own ≡ filled (filled own_key (value_offset K.kind V.kind) ++ own_value) (entry_size K.kind V.kind)

  -- values that are read as a key with its value
  abbrev pub entry_archival : {X : Type 0} → (X → M × N) → Archival X (EntryResolver R S)
  entry_archival parts = record {
    kind = entry_kind K.kind V.kind;
    meaning = λ x. (K.meaning (parts x).0, V.meaning (parts x).1);
    IsIn = λ x. K.IsIn (parts x).0 × V.IsIn (parts x).1;
    Writes = λ x. EntryWrites (parts x);
    Begins = λ x. EntryBegins (parts x);
    Resolves = λ x. EntryResolves (parts x);
    fields = λ x r at. K.fields (parts x).0 r.key at ++ V.fields (parts x).1 r.value (at + value_offset K.kind V.kind);
    lengths = λ x. K.lengths (parts x).0 ++ V.lengths (parts x).1;
    Grows = λ x. K.Grows (parts x).0 ⊎ V.Grows (parts x).1;
    Refuses =
        λ x from fault. K.Refuses (parts x).0 from fault
        ⊎ ((first : List Write) × (r : R) × K.Writes (parts x).0 from first r
        × V.Refuses (parts x).1 (from + length (appended first)) fault);
  }
