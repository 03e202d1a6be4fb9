-- Comparisons of archived tuples with native ones, field by field.
use Rattle.std.specs.Prelude.{ℕ, ◌+◌, ◌&&◌, Bool, List}
use Rattle.std.specs.Ordering.{ordering_then}
use Rattle.std.specs.declared.cmp.Ordering.{Ordering}
use Rattle.rkyv_btree_compound.specs.Tuples.{third_offset, fourth_offset, fifth_offset, sixth_offset}
use Rattle.rkyv_btree_portable.specs.Entry.{value_offset}
use Rattle.rkyv_btree_portable.specs.Kind.{Kind}

-- how native values of a type are compared with what stands at a position of a buffer, and tested with it
abbrev pub ComparedAt : Type 0 → Type 0
ComparedAt N = N → List ℕ → ℕ → Ordering

abbrev pub SameAt : Type 0 → Type 0
SameAt N = N → List ℕ → ℕ → Bool

-- native values that are taken apart, by the value before and the one after it
module _ {T X Y : Type 0} (parts : T → X × Y) (P L : Kind) where
  abbrev pub joined_compared_at : ComparedAt X → ComparedAt Y → ComparedAt T
  joined_compared_at front last native b at = ordering_then (front (parts native).0 b at) (last (parts native).1 b (at + value_offset P L))

  abbrev pub joined_same_at : SameAt X → SameAt Y → SameAt T
  joined_same_at front last native b at = front (parts native).0 b at && last (parts native).1 b (at + value_offset P L)

module _ (A B C : Kind) {M N O : Type 0} (first : ComparedAt M) (second : ComparedAt N) (third : ComparedAt O) where
  abbrev pub tuple3_compared_at : ComparedAt (M × N × O)
  tuple3_compared_at native b at =
      ordering_then (ordering_then (first native.0 b at) (second native.1 b (at + value_offset A B)))
      (third native.2 b (at + third_offset A B C))

  module _ (D : Kind) {Q : Type 0} (fourth : ComparedAt Q) where
    abbrev pub tuple4_compared_at : ComparedAt (M × N × O × Q)
    tuple4_compared_at native b at =
        ordering_then (ordering_then (ordering_then (first native.0 b at) (second native.1 b (at + value_offset A B))) (third native.2 b (at + third_offset A B C)))
        (fourth native.3 b (at + fourth_offset A B C D))

    module _ (E : Kind) {R : Type 0} (fifth : ComparedAt R) where
      abbrev pub tuple5_compared_at : ComparedAt (M × N × O × Q × R)
      tuple5_compared_at native b at =
          ordering_then (ordering_then (ordering_then (ordering_then (first native.0 b at) (second native.1 b (at + value_offset A B))) (third native.2 b (at + third_offset A B C)))
          (fourth native.3 b (at + fourth_offset A B C D)))
          (fifth native.4 b (at + fifth_offset A B C D E))

      module _ (F : Kind) {S : Type 0} (sixth : ComparedAt S) where
        abbrev pub tuple6_compared_at : ComparedAt (M × N × O × Q × R × S)
        tuple6_compared_at native b at =
            ordering_then (ordering_then (ordering_then (ordering_then (ordering_then (first native.0 b at) (second native.1 b (at + value_offset A B))) (third native.2 b (at + third_offset A B C)))
            (fourth native.3 b (at + fourth_offset A B C D)))
            (fifth native.4 b (at + fifth_offset A B C D E)))
            (sixth native.5 b (at + sixth_offset A B C D E F))

module _ (A B C : Kind) {M N O : Type 0} (first : SameAt M) (second : SameAt N) (third : SameAt O) where
  abbrev pub tuple3_same_at : SameAt (M × N × O)
  tuple3_same_at native b at = (first native.0 b at && second native.1 b (at + value_offset A B)) && third native.2 b (at + third_offset A B C)

  module _ (D : Kind) {Q : Type 0} (fourth : SameAt Q) where
    abbrev pub tuple4_same_at : SameAt (M × N × O × Q)
    tuple4_same_at native b at =
        ((first native.0 b at && second native.1 b (at + value_offset A B)) && third native.2 b (at + third_offset A B C))
        && fourth native.3 b (at + fourth_offset A B C D)

    module _ (E : Kind) {R : Type 0} (fifth : SameAt R) where
      abbrev pub tuple5_same_at : SameAt (M × N × O × Q × R)
      tuple5_same_at native b at =
          (((first native.0 b at && second native.1 b (at + value_offset A B)) && third native.2 b (at + third_offset A B C))
          && fourth native.3 b (at + fourth_offset A B C D))
          && fifth native.4 b (at + fifth_offset A B C D E)

      module _ (F : Kind) {S : Type 0} (sixth : SameAt S) where
        abbrev pub tuple6_same_at : SameAt (M × N × O × Q × R × S)
        tuple6_same_at native b at =
            ((((first native.0 b at && second native.1 b (at + value_offset A B)) && third native.2 b (at + third_offset A B C))
            && fourth native.3 b (at + fourth_offset A B C D))
            && fifth native.4 b (at + fifth_offset A B C D E))
            && sixth native.5 b (at + sixth_offset A B C D E F)
