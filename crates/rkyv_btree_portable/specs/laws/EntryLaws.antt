-- What entries owe as an archived type.
use Rattle.std.specs.Prelude.{◌≡◌, ℕ, ◌+◌, ◌^◌, ◌≤◌, ◌<◌, IsTrue, List, length, Some, nat_lt}
use Rattle.std.proofs.Common.{arith, sym, ap, subst, ◌∙◌, inl, inr}
use Rattle.std.proofs.lemmas.Bool.{ltb-true}
use Rattle.rkyv_btree_portable.specs.Entry.{value_offset, entry_align, entry_size, MeansParts, MeansEntry, value_leaves, entry_leaves, entry_kind}
use Rattle.rkyv_btree_portable.specs.Kind.{Kind, IsLawful}
use Rattle.rkyv_btree_portable.specs.laws.Standing.{same_within, placed_found, placed_only}
use Rattle.rkyv_btree_portable.specs.Refusing.{HasPlace}
use Rattle.rkyv_btree_portable.specs.laws.Rounding.{max_alignment, alignment_positive, le-round_up, round_up-aligned}
use Rattle.rkyv_btree_portable.specs.Standing.{SameBytes}
use Rattle.rkyv_btree_portable.specs.Views.{stands}
use Rattle.rkyv_btree_portable.specs.laws.Views.{stands_of, means_read, fitting_of}
use Rattle.rkyv_btree_portable.specs.laws.Choices.{three, some_or}

-- what fits where an entry fits
pub record FittingEntry (K V : Kind) : Type 0 where
  pub key : IsTrue K.is_fitting
  pub value : IsTrue V.is_fitting
  pub size : entry_size K V < 2 ^ 32

pub fitting_entry : (K V : Kind) → IsTrue (entry_kind K V).is_fitting → FittingEntry K V
fitting_entry K V fits =
    let f = three K.is_fitting V.is_fitting (nat_lt (entry_size K V) (2 ^ 32)) fits in
    record { key = f.0; value = f.1; size = ltb-true (entry_size K V) (2 ^ 32) f.2 }

module _ (K V : Kind) (k : IsLawful K) (v : IsLawful V) where
  pub key_inside : K.size ≤ value_offset K V
  key_inside = le-round_up K.size V.align (alignment_positive v.alignment)

  pub value_inside : value_offset K V + V.size ≤ entry_size K V
  value_inside = le-round_up (value_offset K V + V.size) (entry_align K V) (alignment_positive (max_alignment k.alignment v.alignment))

  entry_local : IsTrue (entry_kind K V).is_fitting → (b c : List ℕ) (lo hi at left : ℕ) (e : K.Value × V.Value) → length c ≤ 4294967295 → SameBytes b c lo left → SameBytes b c at (at + entry_size K V) → MeansEntry K V b lo hi at left e → MeansEntry K V c lo hi at left e
  entry_local fits b c lo hi at left e short out own m =
      let f = fitting_entry K V fits in
      let kl = k.lies _ _ _ _ _ _ m.parts.key in
      let vl = v.lies _ _ _ _ _ _ m.parts.value in
      let ki = key_inside in
      let vi = value_inside in
      let mid = m.parts.between in
      let value_at = at + value_offset K V in
      record {
        lies = record { short = short; inside = own.covers; aligned = m.lies.aligned; forward = m.lies.forward; kept = m.lies.kept; before = m.lies.before };
        parts = record {
          between = mid;
          key = k.local f.key b c lo hi at mid e.0 short (same_within b c lo left lo mid (omega arith) (omega arith) out) (same_within b c at (at + entry_size K V) at (at + K.size) (omega arith) (omega arith) own) m.parts.key;
          value = v.local f.value b c mid hi value_at left e.1 short (same_within b c lo left mid left (omega arith) (omega arith) out) (same_within b c at (at + entry_size K V) value_at (value_at + V.size) (omega arith) (omega arith) own) m.parts.value;
        };
      }

  entry_widens : (b : List ℕ) (lo hi at left lo2 hi2 : ℕ) (e : K.Value × V.Value) → lo2 ≤ lo → hi ≤ hi2 → hi2 ≤ at → MeansEntry K V b lo hi at left e → (left2 : ℕ) × (left2 ≤ left) × MeansEntry K V b lo2 hi2 at left2 e
  entry_widens b lo hi at left lo2 hi2 e p q r m =
      let wk = k.widens b lo hi at m.parts.between lo2 hi2 e.0 p q r m.parts.key in
      let wv = v.widens b m.parts.between hi (at + value_offset K V) left wk.0 hi2 e.1 wk.1 q (omega arith) m.parts.value in
      let kl = k.lies _ _ _ _ _ _ wk.2 in
      let vl = v.lies _ _ _ _ _ _ wv.2 in
      let l = m.lies in
      (wv.0, wv.1, record { lies = record { short = l.short; inside = l.inside; aligned = l.aligned; forward = omega arith; kept = omega arith; before = r }; parts = record { between = wk.0; key = wk.2; value = wv.2 } })

  -- a key and a value in place are an entry
  pub entry_of_parts : (b : List ℕ) (lo hi at left : ℕ) (x : K.Value) (y : V.Value) → hi ≤ at → HasPlace b (entry_size K V) (entry_align K V) at → MeansParts K V b lo hi at left x y → MeansEntry K V b lo hi at left (x, y)
  entry_of_parts b lo hi at left x y before has m =
      let kl = k.lies _ _ _ _ _ _ m.key in
      let vl = v.lies _ _ _ _ _ _ m.value in
      record { lies = record { short = has.short; inside = has.room; aligned = has.aligned; forward = omega arith; kept = omega arith; before = before }; parts = m }

  entry_found : IsTrue (entry_kind K V).is_fitting → (b : List ℕ) (lo hi at left : ℕ) → lo ≤ hi → hi ≤ at → entry_leaves K V b lo hi at ≡ Some left → (e : K.Value × V.Value) × MeansEntry K V b lo hi at left e
  entry_found fits b lo hi at left window before e =
      let f = fitting_entry K V fits in
      let placed = placed_found b (entry_size K V) (entry_align K V) at _ left e in
      elim (some_or (K.leaves b lo hi at)) [
        | inl none ↦ absurd (cc (ap (value_leaves K V b hi at) (sym none) ∙ placed.1))
        | inr some ↦
            let km = (k.decides f.key).found b lo hi at some.0 window before some.1 in
            let kl = k.lies _ _ _ _ _ _ km.1 in
            let vm = (v.decides f.value).found b some.0 hi (at + value_offset K V) left (omega arith) (omega arith) (ap (value_leaves K V b hi at) (sym some.1) ∙ placed.1) in
            ((km.0, vm.0), entry_of_parts b lo hi at left km.0 vm.0 before placed.0 (record { between = some.0; key = km.1; value = vm.1 }))
      ]

  entry_only : IsTrue (entry_kind K V).is_fitting → (b : List ℕ) (lo hi at left : ℕ) (e : K.Value × V.Value) → MeansEntry K V b lo hi at left e → entry_leaves K V b lo hi at ≡ Some left
  entry_only fits b lo hi at left e m =
      let f = fitting_entry K V fits in
      placed_only b (entry_size K V) (entry_align K V) at _ m.lies
      ∙ rw ((k.decides f.key).only b lo hi at m.parts.between e.0 m.parts.key) ((v.decides f.value).only b m.parts.between hi (at + value_offset K V) left e.1 m.parts.value)

  -- a value in the window that the key leaves stands in the window that any key leaves there
  pub same_window : (b : List ℕ) (lo hi at mid mid2 left : ℕ) (x y : K.Value) (z : V.Value) → K.Means b lo hi at mid x → K.Means b lo hi at mid2 y → V.Means b mid2 hi (at + value_offset K V) left z → V.Means b mid hi (at + value_offset K V) left z
  same_window b lo hi at mid mid2 left x y z m n = subst (λ w. V.Means b w hi (at + value_offset K V) left z) (sym (k.one_meaning b lo hi at mid mid2 x y m n).0)

  entry_once : (b : List ℕ) (lo hi at left left2 : ℕ) (e f : K.Value × V.Value) → MeansEntry K V b lo hi at left e → MeansEntry K V b lo hi at left2 f → left ≡ left2
  entry_once b lo hi at left left2 e f m n =
      (v.one_meaning b m.parts.between hi (at + value_offset K V) left left2 e.1 f.1 m.parts.value (same_window b lo hi at m.parts.between n.parts.between left2 e.0 f.0 f.1 m.parts.key n.parts.key n.parts.value)).0

  pair : (a c : K.Value) (b d : V.Value) → a ≡ c → b ≡ d → ◌≡◌ {A = K.Value × V.Value} (a, b) (c, d)
  pair a c b d p q = cc

  entry_is_read : (b : List ℕ) (lo hi at left : ℕ) (e : K.Value × V.Value) → MeansEntry K V b lo hi at left e → e ≡ (K.read b at, V.read b (at + value_offset K V))
  entry_is_read b lo hi at left e m = pair _ _ _ _ (k.is_read _ _ _ _ _ _ m.parts.key) (v.is_read _ _ _ _ _ _ m.parts.value)

  pub entry_laws : IsLawful (entry_kind K V)
  entry_laws = record {
    alignment = max_alignment k.alignment v.alignment;
    whole = round_up-aligned (value_offset K V + V.size) (entry_align K V);
    size_fits = λ fits. (fitting_entry K V fits).size;
    lies = λ b lo hi at left e m. m.lies;
    local = entry_local;
    widens = entry_widens;
    one_meaning = λ b lo hi at left left2 e f m n. (entry_once b lo hi at left left2 e f m n, entry_is_read b lo hi at left e m ∙ sym (entry_is_read b lo hi at left2 f n));
    is_read = entry_is_read;
    decides = λ fits. record { found = entry_found fits; only = entry_only fits; within = λ b lo hi at left e m. (m.lies.forward, m.lies.kept) };
  }

  -- where an entry stands, its value stands after its key
  pub value_stands : (b : List ℕ) (at : ℕ) → IsTrue (stands (entry_kind K V) b at) → IsTrue (stands V b (at + value_offset K V))
  value_stands b at h =
      let m = means_read entry_laws b at h in
      let f = fitting_entry K V (fitting_of (entry_kind K V) b at h) in
      stands_of v f.value b _ _ _ _ _ m.means.parts.value
