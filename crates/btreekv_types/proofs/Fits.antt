-- Nodes of maps of two types of items fit.
use Rattle.std.proofs.Common.{◌≡◌, ℕ, ◌+◌, ◌*◌, ◌<◌, ◌≤◌, ◌&&◌, Bool, IsTrue, refl, arith, nat_le}
use Rattle.std.proofs.lemmas.Bool.Decides.{nat_tests}
use Rattle.rkyv_btree_format.specs.Layout.{NodeLayout, are_fitting, inner_size, layout_of, len_at, node_size, values_at, keys_at, align, node_align}
use Rattle.rkyv_btree_portable.specs.Kind.{Kind}
use Rattle.rkyv_btree_portable.specs.Rounding.{IsAlignment, one, two, four, eight, sixteen, round_up}
use Rattle.rkyv_btree_portable.specs.laws.Rounding.{alignment_positive, max_alignment, round_up-lt}
use Rattle.btreekv_types.specs.AnyTypes.{kind_at}
use Rattle.btreekv_types.specs.declared.any_type.AnyType.{AnyType}
use Rattle.btreekv_types.specs.declared.any_type.AnyType.TheVariants.{Optional, Plain, Tuple}
use Rattle.btreekv_types.specs.declared.option_type.OptionType.TheVariants as option
use Rattle.btreekv_types.specs.declared.plain_type.PlainType.TheVariants as plain
use Rattle.btreekv_types.specs.declared.tuple_type.TupleType.TheVariants as tuple

sixteen_at_most : {a : ℕ} → IsAlignment a → a ≤ 16
sixteen_at_most one = omega arith
sixteen_at_most two = omega arith
sixteen_at_most four = omega arith
sixteen_at_most eight = omega arith
sixteen_at_most sixteen = omega arith

-- a type of few bytes
pub record IsSmall (kind : Kind) : Type 0 where
  pub fits : IsTrue kind.is_fitting
  pub few : kind.size ≤ 64
  pub aligned : IsAlignment kind.align

module _ (s : NodeLayout) (five : s.E ≡ 5) (key_few : s.key_size ≤ 64) (value_few : s.value_size ≤ 64) (key_aligned : IsAlignment s.key_align) (value_aligned : IsAlignment s.value_align) where
  node_aligned : IsAlignment (node_align s)
  unfolding node_align
  node_aligned = max_alignment one (max_alignment key_aligned value_aligned)

  aligned : IsAlignment (align s)
  unfolding align
  aligned = max_alignment four node_aligned

  keys_low : keys_at s < 17
  unfolding keys_at
  keys_low = omega (arith, round_up-lt 1 s.key_align (alignment_positive key_aligned), sixteen_at_most key_aligned)

  values_low : values_at s < 17 + 5 * 64 + 16
  unfolding values_at
  values_low =
      let keys : s.E * s.key_size ≤ 5 * 64 = rw five (omega (arith, key_few)) in
      omega (arith, keys, keys_low, round_up-lt (keys_at s + s.E * s.key_size) s.value_align (alignment_positive value_aligned), sixteen_at_most value_aligned)

  node_low : node_size s < 17 + 10 * 64 + 32
  unfolding node_size
  node_low =
      let values : s.E * s.value_size ≤ 5 * 64 = rw five (omega (arith, value_few)) in
      omega (arith, values, values_low, round_up-lt (values_at s + s.E * s.value_size) (node_align s) (alignment_positive node_aligned), sixteen_at_most node_aligned)

  len_low : len_at s < 17 + 10 * 64 + 36
  unfolding len_at
  len_low = omega (arith, node_low, round_up-lt (node_size s) 4 (omega arith))

  pub inner_low : inner_size s ≤ 4294967295
  unfolding inner_size
  inner_low = omega (arith, five, len_low, round_up-lt (len_at s + 4 * s.E + 4) (align s) (alignment_positive aligned), sixteen_at_most aligned)

all_true : (a b c d : Bool) → IsTrue a → IsTrue b → IsTrue c → IsTrue d → IsTrue (a && b && c && d)
all_true a b c d p q r s = rw (p, q, r, s) refl

pub small_fit : (K V : Kind) → IsSmall K → IsSmall V → IsTrue (are_fitting K V 5)
unfolding are_fitting
small_fit K V key value =
    let low : inner_size (layout_of K V 5) ≤ 4294967295 = inner_low (layout_of K V 5) refl key.few value.few key.aligned value.aligned in
    let small : IsTrue (nat_le (inner_size (layout_of K V 5)) 4294967295) = grind (arith, nat_tests, low) in
    all_true _ _ _ _ key.fits value.fits refl small

small : (i : AnyType) → IsSmall (kind_at i)
unfolding round_up
small (Plain plain.U8) = record { fits = refl; few = omega arith; aligned = one }
small (Plain plain.U16) = record { fits = refl; few = omega arith; aligned = two }
small (Plain plain.U32) = record { fits = refl; few = omega arith; aligned = four }
small (Plain plain.U64) = record { fits = refl; few = omega arith; aligned = eight }
small (Plain plain.I32) = record { fits = refl; few = omega arith; aligned = four }
small (Plain plain.I64) = record { fits = refl; few = omega arith; aligned = eight }
small (Plain plain.Text) = record { fits = refl; few = omega arith; aligned = four }
small (Plain plain.Bytes) = record { fits = refl; few = omega arith; aligned = four }
small (Optional option.U32) = record { fits = refl; few = omega arith; aligned = four }
small (Optional option.U64) = record { fits = refl; few = omega arith; aligned = eight }
small (Optional option.I64) = record { fits = refl; few = omega arith; aligned = eight }
small (Tuple tuple.PairU32U32) = record { fits = refl; few = omega arith; aligned = four }
small (Tuple tuple.PairU64U64) = record { fits = refl; few = omega arith; aligned = eight }
small (Tuple tuple.PairU32Text) = record { fits = refl; few = omega arith; aligned = four }
small (Tuple tuple.TripleU32) = record { fits = refl; few = omega arith; aligned = four }
small (Tuple tuple.TripleU64) = record { fits = refl; few = omega arith; aligned = eight }

pub all_fit : (key value : AnyType) → IsTrue (are_fitting (kind_at key) (kind_at value) 5)
all_fit key value = small_fit (kind_at key) (kind_at value) (small key) (small value)
