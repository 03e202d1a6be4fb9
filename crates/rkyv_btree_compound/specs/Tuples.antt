-- Tuples as archived types: each field at its alignment after those before it, and padding up to a multiple of the greatest, as C lays them out.
use Rattle.std.specs.Prelude.{ℕ, ◌+◌, List}
use Rattle.rkyv_btree_compound.specs.Joined.{joined_end, joined_kind}
use Rattle.rkyv_btree_portable.specs.declared.refusal.Refusal.{Refusal}
use Rattle.rkyv_btree_portable.specs.declared.refusal.Refusal.TheVariants.{BadEntry}
use Rattle.rkyv_btree_portable.specs.Entry.{value_offset, entry_align}
use Rattle.rkyv_btree_portable.specs.Kind.{Kind}
use Rattle.rkyv_btree_portable.specs.Refusing.{HasPlace, Misplaced, MeansNothing}
use Rattle.rkyv_btree_portable.specs.Rounding.{round_up}

-- the refusal of a first field, which is asked where all fields have their place
pub data RefusesFirst (K : Kind) (buf : List ℕ) (lo hi at : ℕ) : Refusal → Type 0 where
  bad_first : MeansNothing K buf lo hi at → RefusesFirst K buf lo hi at (BadEntry at)

module _ (P L : Kind) where
  -- the first fields of a tuple and one more, without padding after it
  abbrev pub front_kind : Kind
  front_kind = joined_kind P L (joined_end P L)

  abbrev pub tuple_align : ℕ
  tuple_align = entry_align P L

  abbrev pub tuple_size : ℕ
  tuple_size = round_up (joined_end P L) tuple_align

  -- all fields but the last, and the last
  abbrev pub tuple_kind : Kind
  tuple_kind = joined_kind P L tuple_size

  module _ (RefusesFront : List ℕ → ℕ → ℕ → ℕ → Refusal → Type 0) (buf : List ℕ) (lo hi at : ℕ) where
    -- the refusal of fields that have their place: that of the first fields, or of the last where those mean something
    pub data RefusesFields : Refusal → Type 0 where
      bad_front : {e : Refusal} → RefusesFront buf lo hi at e → RefusesFields e
      bad_last : {mid : ℕ} {x : P.Value} → P.Means buf lo hi at mid x
          → MeansNothing L buf mid hi (at + value_offset P L) → RefusesFields (BadEntry (at + value_offset P L))

    -- the refusal of a tuple that is asked by itself: a case counts only where none before it does
    pub data RefusesTuple : Refusal → Type 0 where
      misplaced_tuple : {e : Refusal} → Misplaced buf tuple_size tuple_align at e → RefusesTuple e
      bad_field : {e : Refusal} → HasPlace buf tuple_size tuple_align at → RefusesFields e → RefusesTuple e

-- the first three, four and five fields
module _ (A B C : Kind) where
  abbrev pub three_kind : Kind
  three_kind = front_kind (front_kind A B) C

  module _ (D : Kind) where
    abbrev pub four_kind : Kind
    four_kind = front_kind three_kind D

    abbrev pub five_kind : Kind → Kind
    five_kind E = front_kind four_kind E

-- tuples of three to six
module _ (A B C : Kind) where
  abbrev pub tuple3_kind : Kind
  tuple3_kind = tuple_kind (front_kind A B) C

  abbrev pub third_offset : ℕ
  third_offset = value_offset (front_kind A B) C

  module _ (D : Kind) where
    abbrev pub tuple4_kind : Kind
    tuple4_kind = tuple_kind (three_kind A B C) D

    abbrev pub fourth_offset : ℕ
    fourth_offset = value_offset (three_kind A B C) D

    module _ (E : Kind) where
      abbrev pub tuple5_kind : Kind
      tuple5_kind = tuple_kind (four_kind A B C D) E

      abbrev pub fifth_offset : ℕ
      fifth_offset = value_offset (four_kind A B C D) E

      module _ (F : Kind) where
        abbrev pub tuple6_kind : Kind
        tuple6_kind = tuple_kind (five_kind A B C D E) F

        abbrev pub sixth_offset : ℕ
        sixth_offset = value_offset (five_kind A B C D E) F
