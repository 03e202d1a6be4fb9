-- A node of at most 1000 entries fits 32 bits, if keys and values have a megabyte at most.
use Rattle.std.proofs.Common.{ℕ, ◌+◌, ◌*◌, ◌≤◌, ◌<◌, ◌&&◌, Bool, true, IsTrue, nat_le, max, refl, arith}
use Rattle.std.proofs.lemmas.Bool.Decides.{nat_tests}
use Rattle.std.proofs.Math.Nat.{mul-le-mul_right}
use Rattle.rkyv_btree_portable.specs.Kind.{Kind, IsLawful}
use Rattle.rkyv_btree_format.specs.Layout.{NodeLayout, layout_of, are_fitting, keys_at, values_at, node_align, node_size, align, len_at, inner_size}
use Rattle.rkyv_btree_portable.specs.Rounding.{IsAlignment, one, two, four, eight, sixteen, round_up}
use Rattle.rkyv_btree_portable.specs.laws.Rounding.{alignment_positive, round_up-lt}
use Rattle.rkyv_btree_convert.specs.Sizes.{IsSmall}

alignment_small : {a : ℕ} → IsAlignment a → a ≤ 16
alignment_small one = omega arith
alignment_small two = omega arith
alignment_small four = omega arith
alignment_small eight = omega arith
alignment_small sixteen = omega arith

at_least : (m n : ℕ) → m ≤ n → IsTrue (nat_le m n)
at_least m n h = grind (arith, nat_tests)

all_true : (a b c d : Bool) → IsTrue a → IsTrue b → IsTrue c → IsTrue d → IsTrue (a && b && c && d)
all_true a b c d p q r s = rw (p, q, r, s) refl

-- what rounding up to two alignments adds at most
module _ (s : NodeLayout) (key_positive : 0 < s.key_align) (key_small : s.key_align ≤ 16) (value_positive : 0 < s.value_align) (value_small : s.value_align ≤ 16) where
  node_bound : node_size s ≤ 64 + (s.E * s.key_size + s.E * s.value_size)
  unfolding node_size values_at keys_at node_align
  node_bound =
      let a = round_up-lt 1 s.key_align key_positive in
      let b = round_up-lt (round_up 1 s.key_align + s.E * s.key_size) s.value_align value_positive in
      let c = round_up-lt (round_up (round_up 1 s.key_align + s.E * s.key_size) s.value_align + s.E * s.value_size) (max 1 (max s.key_align s.value_align)) (omega arith) in
      omega (arith, a, b, c)

  inner_bound : inner_size s ≤ 128 + (s.E * s.key_size + s.E * s.value_size) + 4 * s.E
  unfolding inner_size len_at align node_align
  inner_bound =
      let n = node_bound in
      let a = round_up-lt (node_size s) 4 (omega arith) in
      let b = round_up-lt (round_up (node_size s) 4 + 4 * s.E + 4) (max 4 (max 1 (max s.key_align s.value_align))) (omega arith) in
      omega (arith, n, a, b)

pub small_fits : (K V : Kind) (E : ℕ) → IsLawful K → IsLawful V → IsSmall K → IsSmall V → 1 ≤ E → E ≤ 1000 → IsTrue (are_fitting K V E)
unfolding are_fitting
small_fits K V E k v key value some few =
    let s = layout_of K V E in
    let bound = inner_bound s (alignment_positive k.alignment) (alignment_small k.alignment) (alignment_positive v.alignment) (alignment_small v.alignment) in
    let keys : E * K.size ≤ 1000 * K.size = mul-le-mul_right K.size few in
    let values : E * V.size ≤ 1000 * V.size = mul-le-mul_right V.size few in
    let p = key.1 in
    let q = value.1 in
    let small : inner_size s ≤ 4294967295 = omega (arith, bound, keys, values, p, q, few) in
    all_true K.is_fitting V.is_fitting (nat_le 1 E) (nat_le (inner_size s) 4294967295) key.0 value.0 (at_least 1 E some) (at_least (inner_size s) 4294967295 small)
