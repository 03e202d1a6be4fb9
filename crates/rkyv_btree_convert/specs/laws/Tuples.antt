-- What native tuples owe, by what their fields owe.
use Rattle.std.specs.Prelude.{ℕ, ◌+◌, Bool, ◌&&◌, List, Result}
use Rattle.std.specs.Cmp.{IsTotalOrder, on_total, then_total, first_so, second_so}
use Rattle.std.specs.Ordering.{ordering_then}
use Rattle.std.specs.declared.cmp.Ordering.{Ordering}
use Rattle.std.proofs.Common.{refl, ap}
use Rattle.rkyv_btree_compound.specs.Joined.{joined_end, joined_kind}
use Rattle.rkyv_btree_compound.specs.Tuples.{front_kind, tuple_kind, tuple_size}
use Rattle.rkyv_btree_convert.specs.Deserializing.{IsByMeaning, both}
use Rattle.rkyv_btree_convert.specs.laws.Pairs.{ModelIsWhole}
use Rattle.rkyv_btree_portable.specs.Entry.{value_offset}
use Rattle.rkyv_btree_portable.specs.Kind.{Kind}
use Rattle.rkyv_btree_writer.specs.declared.fault.EntryFault.{EntryFault}

-- what the first fields and the next one give at their places, or the first fault
abbrev pub fields_decoded : {M N : Type 0} (P L : Kind) → (List ℕ → ℕ → Result M EntryFault) → (List ℕ → ℕ → Result N EntryFault) → List ℕ → ℕ → Result (M × N) EntryFault
fields_decoded P L front last b at = both (front b at) (last b (at + value_offset P L))

-- the order of the first fields, and then that of the next one
abbrev pub fields_order : {M N : Type 0} → (M → M → Ordering) → (N → N → Ordering) → M × N → M × N → Ordering
fields_order front last x y = ordering_then (front x.0 y.0) (last x.1 y.1)

pub fields_total : {M N : Type 0} {front : M → M → Ordering} {last : N → N → Ordering} → IsTotalOrder front → IsTotalOrder last → IsTotalOrder (fields_order front last)
fields_total p l = then_total (on_total (λ x. x.0) p) (on_total (λ x. x.1) l)

module _ {M N : Type 0} {P L : Kind} {front : List ℕ → ℕ → Result M EntryFault} {last : List ℕ → ℕ → Result N EntryFault} (p : IsByMeaning P front) (l : IsByMeaning L last) where
  joined_by_meaning : (size : ℕ) → IsByMeaning (joined_kind P L size) (fields_decoded P L front last)
  joined_by_meaning size = record {
    of_value = λ x. both (p.of_value x.0) (l.of_value x.1);
    by_value = λ buf at. rw (p.by_value buf at, l.by_value buf (at + value_offset P L)) refl;
  }

  pub fields_by_meaning : IsByMeaning (front_kind P L) (fields_decoded P L front last)
  fields_by_meaning = joined_by_meaning (joined_end P L)

  pub tuple_by_meaning : IsByMeaning (tuple_kind P L) (fields_decoded P L front last)
  tuple_by_meaning = joined_by_meaning (tuple_size P L)

-- values that are taken apart, with the same model, are equal where they equal themselves
pub parts_model_whole : {X T U M N : Type 0} (parts : X → T × U) {front : T → M} {last : U → N} {same_front : T → T → Bool} {same_last : U → U → Bool} → ModelIsWhole front same_front → ModelIsWhole last same_last
    → ModelIsWhole {T = X} {A = M × N} (λ x. (front (parts x).0, last (parts x).1)) (λ x y. same_front (parts x).0 (parts y).0 && same_last (parts x).1 (parts y).1)
parts_model_whole parts {same_front} {same_last} p l x y model own =
    rw (p (parts x).0 (parts y).0 (ap (λ e. e.0) model) (first_so (same_front (parts x).0 (parts x).0) (same_last (parts x).1 (parts x).1) own), l (parts x).1 (parts y).1 (ap (λ e. e.1) model) (second_so (same_front (parts x).0 (parts x).0) (same_last (parts x).1 (parts x).1) own)) refl
