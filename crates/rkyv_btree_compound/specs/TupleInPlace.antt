-- How tuples are written in place: each field's own bytes at its place, and zeros wherever nothing stands.
use Rattle.std.specs.Prelude.{ℕ, List, ◌++◌}
use Rattle.rkyv_btree_compound.specs.Joined.{joined_end}
use Rattle.rkyv_btree_compound.specs.Tuples.{front_kind, three_kind, four_kind, five_kind, tuple_size}
use Rattle.rkyv_btree_portable.specs.Bytes.{bytes_at, filled}
use Rattle.rkyv_btree_portable.specs.Entry.{value_offset}
use Rattle.rkyv_btree_portable.specs.InPlace.{InPlaceForm}
use Rattle.rkyv_btree_portable.specs.Kind.{Kind}

-- the own bytes of a value and of the next one at its place, in so many bytes
abbrev pub joined_bytes : Kind → Kind → ℕ → List ℕ → List ℕ → List ℕ
joined_bytes K V size key value = filled (filled key (value_offset K V) ++ value) size

-- values that are read as two, in so many bytes
abbrev pub joined_form : {T X Y : Type 0} → (T → X × Y) → Kind → Kind → ℕ → InPlaceForm X → InPlaceForm Y → InPlaceForm T
joined_form parts K V size key value = record {
  Model = key.Model × value.Model;
  model = λ x. (key.model (parts x).0, value.model (parts x).1);
  own_bytes = λ x. joined_bytes K V size (key.own_bytes (parts x).0) (value.own_bytes (parts x).1);
  model_of_bytes = λ b. (key.model_of_bytes (bytes_at b 0 K.size), value.model_of_bytes (bytes_at b (value_offset K V) V.size));
}

-- the first fields of a tuple and the next one
abbrev pub front_form : {X Y : Type 0} → Kind → Kind → InPlaceForm X → InPlaceForm Y → InPlaceForm (X × Y)
front_form P L front last = joined_form (λ x. x) P L (joined_end P L) front last

-- tuples that are read as their first fields and the last
abbrev pub tuple_form : {T X Y : Type 0} → (T → X × Y) → Kind → Kind → InPlaceForm X → InPlaceForm Y → InPlaceForm T
tuple_form parts P L front last = joined_form parts P L (tuple_size P L) front last

module _ {X Y Z : Type 0} (A B C : Kind) (first : InPlaceForm X) (second : InPlaceForm Y) (third : InPlaceForm Z) where
  abbrev pub three_form : InPlaceForm ((X × Y) × Z)
  three_form = front_form (front_kind A B) C (front_form A B first second) third

  abbrev pub tuple3_form : InPlaceForm (X × Y × Z)
  tuple3_form = tuple_form (λ x. ((x.0, x.1), x.2)) (front_kind A B) C (front_form A B first second) third

  module _ {W : Type 0} (D : Kind) (fourth : InPlaceForm W) where
    abbrev pub four_form : InPlaceForm (((X × Y) × Z) × W)
    four_form = front_form (three_kind A B C) D three_form fourth

    abbrev pub tuple4_form : InPlaceForm (X × Y × Z × W)
    tuple4_form = tuple_form (λ x. (((x.0, x.1), x.2), x.3)) (three_kind A B C) D three_form fourth

    module _ {V : Type 0} (E : Kind) (fifth : InPlaceForm V) where
      abbrev pub five_form : InPlaceForm ((((X × Y) × Z) × W) × V)
      five_form = front_form (four_kind A B C D) E four_form fifth

      abbrev pub tuple5_form : InPlaceForm (X × Y × Z × W × V)
      tuple5_form = tuple_form (λ x. ((((x.0, x.1), x.2), x.3), x.4)) (four_kind A B C D) E four_form fifth

      module _ {U : Type 0} (F : Kind) (sixth : InPlaceForm U) where
        abbrev pub tuple6_form : InPlaceForm (X × Y × Z × W × V × U)
        tuple6_form = tuple_form (λ x. (((((x.0, x.1), x.2), x.3), x.4), x.5)) (five_kind A B C D E) F five_form sixth
