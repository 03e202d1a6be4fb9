-- What triples owe as items.
use Rattle.std.specs.Ordering.{ordering_then}
use Rattle.std.specs.Prelude.{ℕ, List}
use Rattle.std.specs.declared.cmp.Ordering.{Ordering}
use Rattle.std.proofs.Common.{ap}
use Rattle.btreekv_items.specs.Items.{IsSpelledApart, SameValues}
use Rattle.btreekv_items.specs.Pairs.{IsWithoutComma}
use Rattle.btreekv_items.specs.Triples.{IsTripleOf, triple_at, triple_text}
use Rattle.btreekv_items.specs.declared.item.BytesStyle.{BytesStyle}
use Rattle.btreekv_items.specs.laws.Joined.{joined_same}
use Rattle.btreekv_items.specs.laws.Pairs.{pair_apart}
use Rattle.rkyv_btree_archive.specs.TupleArchival.{tuple3_archival}
use Rattle.rkyv_btree_archive.specs.laws.JoinedArchived.{same_end, same_tuple_size}
use Rattle.rkyv_btree_compound.specs.Joined.{joined_end}
use Rattle.rkyv_btree_compound.specs.Tuples.{front_kind, third_offset, tuple3_kind, tuple_size}
use Rattle.rkyv_btree_portable.specs.Entry.{value_offset}
use Rattle.rkyv_btree_portable.specs.Kind.{Kind}
use Rattle.rkyv_btree_writer.specs.Archiving.{Archival}

-- the text of a triple is that of a pair, of the first, and of the pair of the other two
pub triple_apart : {A B C : Type 0} {IsFirst : A → Type 0} {IsSecond : B → Type 0} {IsThird : C → Type 0}
    {first : BytesStyle → A → List ℕ} {second : BytesStyle → B → List ℕ} {third : BytesStyle → C → List ℕ}
    → IsWithoutComma IsFirst first → IsWithoutComma IsSecond second
    → IsSpelledApart IsFirst first → IsSpelledApart IsSecond second → IsSpelledApart IsThird third
    → IsSpelledApart (IsTripleOf IsFirst IsSecond IsThird) (triple_text first second third)
triple_apart none none2 apart apart2 apart3 style x y is is2 e =
    let rest = pair_apart none2 apart2 apart3 in
    let same = pair_apart none apart rest style (x.0.0, (x.0.1, x.1)) (y.0.0, (y.0.1, y.1)) (is.0.0, (is.0.1, is.1)) (is2.0.0, (is2.0.1, is2.1)) e in
    ap (λ pair. ((pair.0, pair.1.0), pair.1.1)) same

module _ {X Y Z Q R S A B C : Type 0} {T : Archival X Q} {U : Archival Y R} {V : Archival Z S} {kind kind2 kind3 : Kind}
    {IsFirst : A → Type 0} {IsSecond : B → Type 0} {IsThird : C → Type 0} {order : A → A → Ordering} {order2 : B → B → Ordering} {order3 : C → C → Ordering}
    {value_at : List ℕ → ℕ → A} {value_at2 : List ℕ → ℕ → B} {value_at3 : List ℕ → ℕ → C} {native_value : X → A} {native_value2 : Y → B} {native_value3 : Z → C}
    {native_order : X → X → Ordering} {native_order2 : Y → Y → Ordering} {native_order3 : Z → Z → Ordering}
    (first : SameValues T kind IsFirst order value_at native_value native_order) (second : SameValues U kind2 IsSecond order2 value_at2 native_value2 native_order2)
    (third : SameValues V kind3 IsThird order3 value_at3 native_value3 native_order3) where
  pub triple_same : SameValues (tuple3_archival T U V) (tuple3_kind kind kind2 kind3) (IsTripleOf IsFirst IsSecond IsThird)
      (λ x y. ordering_then (ordering_then (order x.0.0 y.0.0) (order2 x.0.1 y.0.1)) (order3 x.1 y.1))
      (triple_at (value_offset kind kind2) (third_offset kind kind2 kind3) value_at value_at2 value_at3)
      (λ x. ((native_value x.0, native_value2 x.1), native_value3 x.2))
      (λ x y. ordering_then (ordering_then (native_order x.0 y.0) (native_order2 x.1 y.1)) (native_order3 x.2 y.2))
  triple_same =
      let front = joined_same first second (λ x. x) (joined_end T.kind U.kind) (joined_end kind kind2) (same_end T.kind U.kind kind kind2 first.same second.same) in
      joined_same front third (λ x. ((x.0, x.1), x.2)) (tuple_size (front_kind T.kind U.kind) V.kind) (tuple_size (front_kind kind kind2) kind3) (same_tuple_size front.same third.same)
