-- What two values in so many bytes owe as items, by what both owe: pairs and triples are made of them.
use Rattle.std.specs.Ordering.{ordering_then}
use Rattle.std.specs.Prelude.{◌≡◌, ℕ, ◌+◌, List}
use Rattle.std.specs.declared.cmp.Ordering.{Ordering}
use Rattle.std.proofs.Common.{subst, arith}
use Rattle.btreekv_items.specs.Items.{SameValues}
use Rattle.btreekv_items.specs.Pairs.{IsPairOf, pair_at}
use Rattle.rkyv_btree_archive.specs.TupleArchival.{joined_archival}
use Rattle.rkyv_btree_archive.specs.laws.EntryArchived.{same_offset}
use Rattle.rkyv_btree_archive.specs.laws.JoinedArchived.{same_joined}
use Rattle.rkyv_btree_compound.specs.Joined.{joined_kind}
use Rattle.rkyv_btree_portable.specs.Entry.{value_offset}
use Rattle.rkyv_btree_portable.specs.Kind.{Kind}
use Rattle.rkyv_btree_portable.specs.Standing.{IsAligned}
use Rattle.rkyv_btree_writer.specs.Archiving.{Archival, Matches}

-- two values whose parts lie alike lie alike
module _ (K V A B : Kind) (k : Matches K A) (v : Matches V B) (size size2 : ℕ) (e : size ≡ size2) where
  pub matching_joined : Matches (joined_kind K V size) (joined_kind A B size2)
  matching_joined =
      let same = same_joined K V A B k v size size2 e in
      record {
        to = λ x. (k.to x.0, v.to x.1);
        size = same.size;
        align = same.align;
        fits = same.fits;
        means = λ b lo hi at left x m.
            let l = m.lies in
            record {
              lies = record { short = l.short; inside = omega arith; aligned = subst (λ a. IsAligned a at) same.align l.aligned; forward = l.forward; kept = l.kept; before = l.before };
              parts = record {
                between = m.parts.between;
                key = k.means b lo hi at m.parts.between x.0 m.parts.key;
                value = subst (λ n. B.Means b m.parts.between hi (at + n) left (v.to x.1)) (same_offset K V A B k v) (v.means b m.parts.between hi (at + value_offset K V) left x.1 m.parts.value);
              };
            };
      }

-- native values that are read as two
module _ {X Y Z R S A B : Type 0} {T : Archival X R} {U : Archival Y S} {kind kind2 : Kind} {IsFirst : A → Type 0} {IsSecond : B → Type 0}
    {order : A → A → Ordering} {order2 : B → B → Ordering} {value_at : List ℕ → ℕ → A} {value_at2 : List ℕ → ℕ → B} {native_value : X → A} {native_value2 : Y → B}
    {native_order : X → X → Ordering} {native_order2 : Y → Y → Ordering} (first : SameValues T kind IsFirst order value_at native_value native_order)
    (second : SameValues U kind2 IsSecond order2 value_at2 native_value2 native_order2) (parts : Z → X × Y) (size size2 : ℕ) (e : size ≡ size2) where
  pub joined_same : SameValues (joined_archival T U size parts) (joined_kind kind kind2 size2) (IsPairOf IsFirst IsSecond)
      (λ x y. ordering_then (order x.0 y.0) (order2 x.1 y.1)) (pair_at (value_offset kind kind2) value_at value_at2)
      (λ z. (native_value (parts z).0, native_value2 (parts z).1)) (λ x y. ordering_then (native_order (parts x).0 (parts y).0) (native_order2 (parts x).1 (parts y).1))
  unfolding matching_joined
  joined_same = record {
    same = matching_joined T.kind U.kind kind kind2 first.same second.same size size2 e;
    to = λ x. (first.to x.0, second.to x.1);
    from = λ x. (first.from x.0, second.from x.1);
    from_to = λ x. λ i. (first.from_to x.0 i, second.from_to x.1 i);
    to_from = λ x. λ i. (first.to_from x.0 i, second.to_from x.1 i);
    read = λ b at. let x = first.read b at in let y = second.read b (at + value_offset kind kind2) in cc;
    meant = λ b lo hi at left x bytes m.
        (first.meant b lo hi at m.parts.between x.0 bytes m.parts.key, second.meant b m.parts.between hi (at + value_offset kind kind2) left x.1 bytes m.parts.value);
    native = λ z. let a = first.native (parts z).0 in let b = second.native (parts z).1 in cc;
    ordered = λ v w. let a = first.ordered v.0 w.0 in let b = second.ordered v.1 w.1 in cc;
    natively = λ x y. let a = first.natively (parts x).0 (parts y).0 in let b = second.natively (parts x).1 (parts y).1 in cc;
  }
