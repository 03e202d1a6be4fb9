-- What archiving a tuple does: each field's writes in turn, and the own bytes of all.
use Rattle.std.specs.Prelude.{◌≡◌, ℕ, ◌+◌, ◌⊎◌, List, ◌++◌, length}
use Rattle.rkyv_btree_archive.specs.EntryArchival.{EntryWrites, EntryBegins}
use Rattle.rkyv_btree_archive.specs.declared.util.EntryResolver.{EntryResolver}
use Rattle.rkyv_btree_compound.specs.Joined.{joined_end, joined_kind}
use Rattle.rkyv_btree_compound.specs.Tuples.{tuple_size}
use Rattle.rkyv_btree_portable.specs.Bytes.{filled}
use Rattle.rkyv_btree_portable.specs.Entry.{value_offset}
use Rattle.rkyv_btree_writer.specs.Archiving.{Archival}
use Rattle.rkyv_btree_writer.specs.Writing.{Write, appended}

module _ {M N R S : Type 0} (K : Archival M R) (V : Archival N S) (size : ℕ) where
  -- the first value's own bytes, then the second's at its place, and zeros wherever nothing stands
  pub record JoinedResolves (x : M × N) (r : EntryResolver R S) (at : ℕ) (own : List ℕ) : Type 0 where
    pub own_key : List ℕ
    pub own_value : List ℕ
    pub key : K.Resolves x.0 r.key at own_key
    pub value : V.Resolves x.1 r.value (at + value_offset K.kind V.kind) own_value
    pub parts : own ≡ filled (filled own_key (value_offset K.kind V.kind) ++ own_value) size

  -- values that are read as two, in so many bytes; an entry is one of them
  abbrev pub joined_archival : {X : Type 0} → (X → M × N) → Archival X (EntryResolver R S)
  joined_archival parts = record {
    kind = joined_kind K.kind V.kind size;
    meaning = λ x. (K.meaning (parts x).0, V.meaning (parts x).1);
    IsIn = λ x. K.IsIn (parts x).0 × V.IsIn (parts x).1;
    Writes = λ x. EntryWrites K V (parts x);
    Begins = λ x. EntryBegins K V (parts x);
    Resolves = λ x. JoinedResolves (parts x);
    fields = λ x r at. K.fields (parts x).0 r.key at ++ V.fields (parts x).1 r.value (at + value_offset K.kind V.kind);
    lengths = λ x. K.lengths (parts x).0 ++ V.lengths (parts x).1;
    Grows = λ x. K.Grows (parts x).0 ⊎ V.Grows (parts x).1;
    Refuses =
        λ x from fault. K.Refuses (parts x).0 from fault
        ⊎ ((first : List Write) × (r : R) × K.Writes (parts x).0 from first r
        × V.Refuses (parts x).1 (from + length (appended first)) fault);
  }

module _ {M N R S : Type 0} (K : Archival M R) (V : Archival N S) where
  -- the first fields of a tuple and the next one
  abbrev pub front_archival : Archival (M × N) (EntryResolver R S)
  front_archival = joined_archival K V (joined_end K.kind V.kind) (λ x. x)

  -- tuples that are read as their first fields and the last
  abbrev pub tuple_archival : {X : Type 0} → (X → M × N) → Archival X (EntryResolver R S)
  tuple_archival parts = joined_archival K V (tuple_size K.kind V.kind) parts

-- the resolver of a tuple is that of its fields but the last, and that of the last
module _ {L M N Q R S : Type 0} (A : Archival L Q) (B : Archival M R) (C : Archival N S) where
  abbrev pub three_archival : Archival ((L × M) × N) (EntryResolver (EntryResolver Q R) S)
  three_archival = front_archival (front_archival A B) C

  abbrev pub tuple3_archival : Archival (L × M × N) (EntryResolver (EntryResolver Q R) S)
  tuple3_archival = tuple_archival (front_archival A B) C (λ x. ((x.0, x.1), x.2))

  module _ {O T : Type 0} (D : Archival O T) where
    abbrev pub four_archival : Archival (((L × M) × N) × O) (EntryResolver (EntryResolver (EntryResolver Q R) S) T)
    four_archival = front_archival three_archival D

    abbrev pub tuple4_archival : Archival (L × M × N × O) (EntryResolver (EntryResolver (EntryResolver Q R) S) T)
    tuple4_archival = tuple_archival three_archival D (λ x. (((x.0, x.1), x.2), x.3))

    module _ {P U : Type 0} (E : Archival P U) where
      abbrev pub five_archival : Archival ((((L × M) × N) × O) × P) (EntryResolver (EntryResolver (EntryResolver (EntryResolver Q R) S) T) U)
      five_archival = front_archival four_archival E

      abbrev pub tuple5_archival : Archival (L × M × N × O × P) (EntryResolver (EntryResolver (EntryResolver (EntryResolver Q R) S) T) U)
      tuple5_archival = tuple_archival four_archival E (λ x. ((((x.0, x.1), x.2), x.3), x.4))

      module _ {W V : Type 0} (F : Archival W V) where
        abbrev pub tuple6_archival : Archival (L × M × N × O × P × W) (EntryResolver (EntryResolver (EntryResolver (EntryResolver (EntryResolver Q R) S) T) U) V)
        tuple6_archival = tuple_archival five_archival F (λ x. (((((x.0, x.1), x.2), x.3), x.4), x.5))
