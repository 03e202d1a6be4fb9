-- What two values in so many bytes owe, by what each of both owes.
use Rattle.std.specs.Prelude.{◌≡◌, ℕ, ◌+◌, ◌^◌, ◌≤◌, ◌<◌, IsTrue, List, length, Some, nat_lt}
use Rattle.std.proofs.Common.{arith, sym, ap, subst, ◌∙◌, inl, inr}
use Rattle.std.proofs.lemmas.Bool.{ltb-true}
use Rattle.rkyv_btree_compound.specs.Joined.{joined_end, MeansJoined, joined_leaves, joined_kind, IsLaidOut}
use Rattle.rkyv_btree_portable.specs.Entry.{value_offset, entry_align, MeansParts, value_leaves}
use Rattle.rkyv_btree_portable.specs.Kind.{Kind, IsLawful}
use Rattle.rkyv_btree_portable.specs.Refusing.{HasPlace}
use Rattle.rkyv_btree_portable.specs.Standing.{IsAligned, SameBytes}
use Rattle.rkyv_btree_portable.specs.laws.Choices.{three, some_or}
use Rattle.rkyv_btree_portable.specs.laws.Rounding.{max_alignment, alignment_positive, le-round_up}
use Rattle.rkyv_btree_portable.specs.laws.Standing.{same_within, placed_found, placed_only}

-- what is laid out in a multiple of its alignment is an archived type, and each archived type is laid out
pub lawful_of : {kind : Kind} → IsLaidOut kind → IsAligned kind.align kind.size → IsLawful kind
lawful_of l whole = record {
  alignment = l.alignment;
  whole = whole;
  size_fits = l.size_fits;
  lies = l.lies;
  local = l.local;
  widens = l.widens;
  one_meaning = l.one_meaning;
  is_read = l.is_read;
  decides = l.decides;
}

pub laid_out_of : {kind : Kind} → IsLawful kind → IsLaidOut kind
laid_out_of l = record {
  alignment = l.alignment;
  size_fits = l.size_fits;
  lies = l.lies;
  local = l.local;
  widens = l.widens;
  one_meaning = l.one_meaning;
  is_read = l.is_read;
  decides = l.decides;
}

-- what fits where both values fit
pub record FittingJoined (K V : Kind) (size : ℕ) : Type 0 where
  pub key : IsTrue K.is_fitting
  pub value : IsTrue V.is_fitting
  pub small : size < 2 ^ 32

pub fitting_joined : (K V : Kind) (size : ℕ) → IsTrue (joined_kind K V size).is_fitting → FittingJoined K V size
fitting_joined K V size fits =
    let f = three K.is_fitting V.is_fitting (nat_lt size (2 ^ 32)) fits in
    record { key = f.0; value = f.1; small = ltb-true size (2 ^ 32) f.2 }

module _ (K V : Kind) (k : IsLaidOut K) (v : IsLaidOut V) where
  pub key_before : K.size ≤ value_offset K V
  key_before = le-round_up K.size V.align (alignment_positive v.alignment)

  -- a value in the window that the first leaves stands in the window that any first value leaves there
  pub same_window : (b : List ℕ) (lo hi at mid mid2 left : ℕ) (x y : K.Value) (z : V.Value) → K.Means b lo hi at mid x → K.Means b lo hi at mid2 y → V.Means b mid2 hi (at + value_offset K V) left z → V.Means b mid hi (at + value_offset K V) left z
  same_window b lo hi at mid mid2 left x y z m n = subst (λ w. V.Means b w hi (at + value_offset K V) left z) (sym (k.one_meaning b lo hi at mid mid2 x y m n).0)

  module _ (size : ℕ) (room : joined_end K V ≤ size) where
    joined_local : IsTrue (joined_kind K V size).is_fitting → (b c : List ℕ) (lo hi at left : ℕ) (e : K.Value × V.Value) → length c ≤ 4294967295 → SameBytes b c lo left → SameBytes b c at (at + size) → MeansJoined K V size b lo hi at left e → MeansJoined K V size c lo hi at left e
    joined_local fits b c lo hi at left e short out own m =
        let f = fitting_joined K V size fits in
        let kl = k.lies _ _ _ _ _ _ m.parts.key in
        let vl = v.lies _ _ _ _ _ _ m.parts.value in
        let ki = key_before in
        let mid = m.parts.between in
        let value_at = at + value_offset K V in
        record {
          lies = record { short = short; inside = own.covers; aligned = m.lies.aligned; forward = m.lies.forward; kept = m.lies.kept; before = m.lies.before };
          parts = record {
            between = mid;
            key = k.local f.key b c lo hi at mid e.0 short (same_within b c lo left lo mid (omega arith) (omega arith) out) (same_within b c at (at + size) at (at + K.size) (omega arith) (omega arith) own) m.parts.key;
            value = v.local f.value b c mid hi value_at left e.1 short (same_within b c lo left mid left (omega arith) (omega arith) out) (same_within b c at (at + size) value_at (value_at + V.size) (omega arith) (omega arith) own) m.parts.value;
          };
        }

    joined_widens : (b : List ℕ) (lo hi at left lo2 hi2 : ℕ) (e : K.Value × V.Value) → lo2 ≤ lo → hi ≤ hi2 → hi2 ≤ at → MeansJoined K V size b lo hi at left e → (left2 : ℕ) × (left2 ≤ left) × MeansJoined K V size b lo2 hi2 at left2 e
    joined_widens b lo hi at left lo2 hi2 e p q r m =
        let wk = k.widens b lo hi at m.parts.between lo2 hi2 e.0 p q r m.parts.key in
        let wv = v.widens b m.parts.between hi (at + value_offset K V) left wk.0 hi2 e.1 wk.1 q (omega arith) m.parts.value in
        let kl = k.lies _ _ _ _ _ _ wk.2 in
        let vl = v.lies _ _ _ _ _ _ wv.2 in
        let l = m.lies in
        (wv.0, wv.1, record { lies = record { short = l.short; inside = l.inside; aligned = l.aligned; forward = omega arith; kept = omega arith; before = r }; parts = record { between = wk.0; key = wk.2; value = wv.2 } })

    -- two values in place, each in its window, are both
    pub joined_of_parts : (b : List ℕ) (lo hi at left : ℕ) (x : K.Value) (y : V.Value) → hi ≤ at → HasPlace b size (entry_align K V) at → MeansParts K V b lo hi at left x y → MeansJoined K V size b lo hi at left (x, y)
    joined_of_parts b lo hi at left x y before has m =
        let kl = k.lies _ _ _ _ _ _ m.key in
        let vl = v.lies _ _ _ _ _ _ m.value in
        record { lies = record { short = has.short; inside = has.room; aligned = has.aligned; forward = omega arith; kept = omega arith; before = before }; parts = m }

    joined_found : IsTrue (joined_kind K V size).is_fitting → (b : List ℕ) (lo hi at left : ℕ) → lo ≤ hi → hi ≤ at → joined_leaves K V size b lo hi at ≡ Some left → (e : K.Value × V.Value) × MeansJoined K V size b lo hi at left e
    joined_found fits b lo hi at left window before e =
        let f = fitting_joined K V size fits in
        let placed = placed_found b size (entry_align K V) at _ left e in
        elim (some_or (K.leaves b lo hi at)) [
          | inl none ↦ absurd (cc (ap (value_leaves K V b hi at) (sym none) ∙ placed.1))
          | inr some ↦
              let km = (k.decides f.key).found b lo hi at some.0 window before some.1 in
              let kl = k.lies _ _ _ _ _ _ km.1 in
              let vm = (v.decides f.value).found b some.0 hi (at + value_offset K V) left (omega arith) (omega arith) (ap (value_leaves K V b hi at) (sym some.1) ∙ placed.1) in
              ((km.0, vm.0), joined_of_parts b lo hi at left km.0 vm.0 before placed.0 (record { between = some.0; key = km.1; value = vm.1 }))
        ]

    joined_only : IsTrue (joined_kind K V size).is_fitting → (b : List ℕ) (lo hi at left : ℕ) (e : K.Value × V.Value) → MeansJoined K V size b lo hi at left e → joined_leaves K V size b lo hi at ≡ Some left
    joined_only fits b lo hi at left e m =
        let f = fitting_joined K V size fits in
        placed_only b size (entry_align K V) at _ m.lies
        ∙ rw ((k.decides f.key).only b lo hi at m.parts.between e.0 m.parts.key) ((v.decides f.value).only b m.parts.between hi (at + value_offset K V) left e.1 m.parts.value)

    joined_once : (b : List ℕ) (lo hi at left left2 : ℕ) (e f : K.Value × V.Value) → MeansJoined K V size b lo hi at left e → MeansJoined K V size b lo hi at left2 f → left ≡ left2
    joined_once b lo hi at left left2 e f m n =
        (v.one_meaning b m.parts.between hi (at + value_offset K V) left left2 e.1 f.1 m.parts.value (same_window b lo hi at m.parts.between n.parts.between left2 e.0 f.0 f.1 m.parts.key n.parts.key n.parts.value)).0

    pair : (a c : K.Value) (b d : V.Value) → a ≡ c → b ≡ d → ◌≡◌ {A = K.Value × V.Value} (a, b) (c, d)
    pair a c b d p q = cc

    joined_is_read : (b : List ℕ) (lo hi at left : ℕ) (e : K.Value × V.Value) → MeansJoined K V size b lo hi at left e → e ≡ (K.read b at, V.read b (at + value_offset K V))
    joined_is_read b lo hi at left e m = pair _ _ _ _ (k.is_read _ _ _ _ _ _ m.parts.key) (v.is_read _ _ _ _ _ _ m.parts.value)

    pub joined_laid_out : IsLaidOut (joined_kind K V size)
    joined_laid_out = record {
      alignment = max_alignment k.alignment v.alignment;
      size_fits = λ fits. (fitting_joined K V size fits).small;
      lies = λ b lo hi at left e m. m.lies;
      local = joined_local;
      widens = joined_widens;
      one_meaning = λ b lo hi at left left2 e f m n. (joined_once b lo hi at left left2 e f m n, joined_is_read b lo hi at left e m ∙ sym (joined_is_read b lo hi at left2 f n));
      is_read = joined_is_read;
      decides = λ fits. record { found = joined_found fits; only = joined_only fits; within = λ b lo hi at left e m. (m.lies.forward, m.lies.kept) };
    }
