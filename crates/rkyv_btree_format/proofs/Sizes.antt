-- How the parts of a node follow one another.
use Rattle.std.proofs.Common.{◌≡◌, ℕ, ◌+◌, ◌*◌, ◌^◌, ◌≤◌, ◌<◌, ◌&&◌, Bool, true, false, IsTrue, nat_le, refl, arith}
use Rattle.std.proofs.lemmas.Bool.Decides.{nat_tests}
use Rattle.std.proofs.Math.Nat.{mul-le-mul_right}
use Rattle.rkyv_btree_portable.specs.Kind.{Kind, IsLawful}
use Rattle.rkyv_btree_format.specs.Layout.{layout_of, NodeLayout, are_fitting, keys_at, values_at, node_align, node_size, align, len_at, leaf_size, inner_size, key_at, value_at}
use Rattle.rkyv_btree_portable.specs.laws.Rounding.{alignment_positive, le-round_up, round_up_mono, round_up-aligned}

-- what `are_fitting` tests
pub record AreFitting (K V : Kind) (E : ℕ) : Type 0 where
  pub key : IsTrue K.is_fitting
  pub value : IsTrue V.is_fitting
  pub some : 1 ≤ E
  pub small : inner_size (layout_of K V E) ≤ 4294967295

four_tests : (a b c d : Bool) → IsTrue (a && b && c && d) → IsTrue a × IsTrue b × IsTrue c × IsTrue d
four_tests true true true d h = (refl, refl, refl, h)
four_tests true true false d h = absurd (cc h)
four_tests true false c d h = absurd (cc h)
four_tests false b c d h = absurd (cc h)

at_most : (m n : ℕ) → IsTrue (nat_le m n) → m ≤ n
at_most m n h = grind (arith, nat_tests)

pub fitting_parts : (K V : Kind) (E : ℕ) → IsTrue (are_fitting K V E) → AreFitting K V E
unfolding are_fitting
fitting_parts K V E h =
    let parts = four_tests K.is_fitting V.is_fitting (nat_le 1 E) (nat_le (inner_size (layout_of K V E)) 4294967295) h in
    record { key = parts.0; value = parts.1; some = at_most 1 E parts.2; small = at_most (inner_size (layout_of K V E)) 4294967295 parts.3 }

-- nodes that fit, of two types with an alignment
pub record IsSound (s : NodeLayout) : Type 0 where
  pub key_align : 1 ≤ s.key_align
  pub value_align : 1 ≤ s.value_align
  pub capacity : 1 ≤ s.E
  pub size : inner_size s ≤ 4294967295

pub sound_of : (K V : Kind) (E : ℕ) → IsLawful K → IsLawful V → IsTrue (are_fitting K V E) → IsSound (layout_of K V E)
sound_of K V E k v h =
    let f = fitting_parts K V E h in
    record { key_align = alignment_positive k.alignment; value_align = alignment_positive v.alignment; capacity = f.some; size = f.small }

-- how the parts of a node follow one another
pub record Follow (s : NodeLayout) : Type 0 where
  pub kind : 1 ≤ keys_at s
  pub keys : keys_at s + s.E * s.key_size ≤ values_at s
  pub values : values_at s + s.E * s.value_size ≤ node_size s
  pub entries : node_size s ≤ len_at s
  pub len : len_at s + 4 ≤ leaf_size s
  pub pointers : len_at s + 4 * s.E + 4 ≤ inner_size s
  pub leaf : leaf_size s ≤ inner_size s
  pub align : 1 ≤ node_align s

pub follow : (s : NodeLayout) → IsSound s → Follow s
unfolding keys_at values_at node_align node_size align len_at leaf_size inner_size
follow s fits = record {
  kind = le-round_up 1 s.key_align fits.key_align;
  keys = le-round_up _ s.value_align fits.value_align;
  values = le-round_up _ _ (omega arith);
  entries = le-round_up _ 4 (omega arith);
  len = le-round_up _ _ (omega arith);
  pointers = le-round_up _ _ (omega arith);
  leaf = round_up_mono _ _ _ (omega arith) (omega arith);
  align = omega arith;
}

pub key_inside : (s : NodeLayout) (i : ℕ) → IsSound s → i < s.E → key_at s i ≤ leaf_size s
key_inside s i fits h =
    let f = follow s fits in
    let m : i * s.key_size ≤ s.E * s.key_size = mul-le-mul_right s.key_size (omega arith) in
    omega arith

pub value_inside : (s : NodeLayout) (i : ℕ) → IsSound s → i < s.E → value_at s i ≤ leaf_size s
value_inside s i fits h =
    let f = follow s fits in
    let m : i * s.value_size ≤ s.E * s.value_size = mul-le-mul_right s.value_size (omega arith) in
    omega arith

-- a node takes a byte at least
pub leaf_some : (s : NodeLayout) → IsSound s → 1 ≤ leaf_size s
leaf_some s fits = let f = follow s fits in omega arith

-- what is known of nodes that fit, in numbers
pub record Room (K V : Kind) (E : ℕ) : Type 0 where
  pub key : IsTrue K.is_fitting
  pub value : IsTrue V.is_fitting
  pub some : 1 ≤ E
  pub entries : E < 2 ^ 30
  pub small : inner_size (layout_of K V E) ≤ 4294967295
  pub parts : Follow (layout_of K V E)
  pub eight : 8 ≤ leaf_size (layout_of K V E)
  pub key_at : (i : ℕ) → i ≤ E → i * K.size ≤ E * K.size
  pub value_at : (i : ℕ) → i ≤ E → i * V.size ≤ E * V.size

eight_at_least : (s : NodeLayout) → IsSound s → 8 ≤ leaf_size s
unfolding keys_at leaf_size len_at align
eight_at_least s fits =
    let f = follow s fits in
    let keys = le-round_up 1 s.key_align fits.key_align in
    let len : 4 ≤ len_at s = omega (arith, round_up-aligned (node_size s) 4) in
    let some = f.align in
    omega (arith, le-round_up (len_at s + 4) (align s) (omega arith))

pub room_of : (K V : Kind) (E : ℕ) → IsLawful K → IsLawful V → IsTrue (are_fitting K V E) → Room K V E
room_of K V E k v h =
    let f = fitting_parts K V E h in
    let sound = sound_of K V E k v h in
    let parts = follow (layout_of K V E) sound in
    record {
      key = f.key;
      value = f.value;
      some = f.some;
      entries = omega arith;
      small = f.small;
      parts = parts;
      eight = eight_at_least (layout_of K V E) sound;
      key_at = λ i le. mul-le-mul_right K.size le;
      value_at = λ i le. mul-le-mul_right V.size le;
    }

-- nodes with more entries have pointers past 32 bits
pub too_many : (K V : Kind) (E : ℕ) → IsLawful K → IsLawful V → 1073741823 < E → are_fitting K V E ≡ false
too_many K V E k v many = not_true (are_fitting K V E) (λ h. let room = room_of K V E k v h in omega (arith, room.entries))
  where
    not_true : (b : Bool) → ¬ IsTrue b → b ≡ false
    not_true true h = absurd (h refl)
    not_true false h = refl
