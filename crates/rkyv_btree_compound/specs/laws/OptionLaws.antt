-- What options owe as an archived type.
use Rattle.std.specs.Prelude.{◌≡◌, ℕ, ◌+◌, ◌^◌, ◌≤◌, ◌<◌, IsTrue, List, length, Option, Some, None, slice_index, nat_eq, nat_lt}
use Rattle.std.proofs.Common.{arith, refl, sym, ap, ◌∙◌, inl, inr}
use Rattle.std.proofs.lemmas.Bool.{ltb-true, eqb-true}
use Rattle.rkyv_btree_portable.specs.Kind.{Kind, IsLawful}
use Rattle.rkyv_btree_portable.specs.Refusing.{HasPlace}
use Rattle.rkyv_btree_portable.specs.Rounding.{IsAlignment, one, two, four, eight, sixteen}
use Rattle.rkyv_btree_portable.specs.Standing.{IsAligned, Lies, SameBytes}
use Rattle.rkyv_btree_portable.specs.Views.{stands}
use Rattle.rkyv_btree_portable.specs.laws.Choices.{both, chosen, through}
use Rattle.rkyv_btree_portable.specs.laws.Rounding.{alignment_positive, aligned_add}
use Rattle.rkyv_btree_portable.specs.laws.Standing.{same_within, placed_found, placed_only}
use Rattle.rkyv_btree_portable.specs.laws.Views.{means_read, stands_of, fitting_of}
use Rattle.rkyv_btree_compound.specs.Option.{option_size, MeansTagged, MeansOption, tagged_leaves, option_leaves, option_read, option_kind}

-- what fits where an option fits
pub record FittingOption (T : Kind) : Type 0 where
  pub value : IsTrue T.is_fitting
  pub size : option_size T < 2 ^ 32

pub fitting_option : (T : Kind) → IsTrue (option_kind T).is_fitting → FittingOption T
fitting_option T fits =
    let f = both T.is_fitting (nat_lt (option_size T) (2 ^ 32)) fits in
    record { value = f.0; size = ltb-true (option_size T) (2 ^ 32) f.1 }

-- each alignment is a multiple of itself
pub aligned_self : {a : ℕ} → IsAlignment a → IsAligned a a
aligned_self one = refl
aligned_self two = refl
aligned_self four = refl
aligned_self eight = refl
aligned_self sixteen = refl

module _ (T : Kind) (t : IsLawful T) where
  option_whole : IsAligned T.align (option_size T)
  option_whole = aligned_add T.align T.align T.size (aligned_self t.alignment) t.whole

  tagged_local : IsTrue (option_kind T).is_fitting → (b c : List ℕ) (lo hi at left : ℕ) (o : Option T.Value) → length c ≤ 4294967295 → SameBytes b c lo left → SameBytes b c at (at + option_size T) → MeansTagged T b lo hi at left o → MeansTagged T c lo hi at left o
  tagged_local fits b c lo hi at left None short out own m =
      let positive = alignment_positive t.alignment in
      (sym (own.same at (omega arith) (omega arith)) ∙ m.0, m.1)
  tagged_local fits b c lo hi at left (Some v) short out own m =
      let positive = alignment_positive t.alignment in
      let value = same_within b c at (at + option_size T) (at + T.align) (at + T.align + T.size) (omega arith) (omega arith) own in
      (sym (own.same at (omega arith) (omega arith)) ∙ m.0, t.local (fitting_option T fits).value b c lo hi (at + T.align) left v short out value m.1)

  option_local : IsTrue (option_kind T).is_fitting → (b c : List ℕ) (lo hi at left : ℕ) (o : Option T.Value) → length c ≤ 4294967295 → SameBytes b c lo left → SameBytes b c at (at + option_size T) → MeansOption T b lo hi at left o → MeansOption T c lo hi at left o
  option_local fits b c lo hi at left o short out own m = record {
    lies = record { short = short; inside = own.covers; aligned = m.lies.aligned; forward = m.lies.forward; kept = m.lies.kept; before = m.lies.before };
    tagged = tagged_local fits b c lo hi at left o short out own m.tagged;
  }

  -- an option that lies in a buffer, by its tag and what this says
  pub option_of : (b : List ℕ) (lo hi at left : ℕ) (o : Option T.Value) → lo ≤ left → left ≤ hi → hi ≤ at → HasPlace b (option_size T) T.align at → MeansTagged T b lo hi at left o → MeansOption T b lo hi at left o
  option_of b lo hi at left o forward kept before has m = record { lies = record { short = has.short; inside = has.room; aligned = has.aligned; forward = forward; kept = kept; before = before }; tagged = m }

  place_in : (b : List ℕ) (lo hi at left : ℕ) → Lies b (option_size T) T.align lo hi at left → HasPlace b (option_size T) T.align at
  place_in b lo hi at left l = record { short = l.short; room = l.inside; aligned = l.aligned }

  option_widens : (b : List ℕ) (lo hi at left lo2 hi2 : ℕ) (o : Option T.Value) → lo2 ≤ lo → hi ≤ hi2 → hi2 ≤ at → MeansOption T b lo hi at left o → (left2 : ℕ) × (left2 ≤ left) × MeansOption T b lo2 hi2 at left2 o
  option_widens b lo hi at left lo2 hi2 None p q r m =
      let l = m.lies in
      (lo2, omega (arith, p, l.forward), option_of b lo2 hi2 at lo2 None (omega arith) (omega (arith, p, q, l.forward, l.kept)) r (place_in b lo hi at left l) (m.tagged.0, refl))
  option_widens b lo hi at left lo2 hi2 (Some v) p q r m =
      let w = t.widens b lo hi (at + T.align) left lo2 hi2 v p q (omega arith) m.tagged.1 in
      let l = t.lies _ _ _ _ _ _ w.2 in
      (w.0, w.1, option_of b lo2 hi2 at w.0 (Some v) l.forward l.kept r (place_in b lo hi at left m.lies) (m.tagged.0, w.2))

  tagged_found : IsTrue (option_kind T).is_fitting → (b : List ℕ) (lo hi at left : ℕ) → lo ≤ hi → hi ≤ at → tagged_leaves T b lo hi at ≡ Some left → (o : Option T.Value) × MeansTagged T b lo hi at left o × (lo ≤ left) × (left ≤ hi)
  tagged_found fits b lo hi at left window before e =
      let f = (fitting_option T fits).value in
      elim (chosen (nat_eq (slice_index b at) 0) (Some lo) _ (Some left) e) [
        | inl absent ↦
            let same : left ≡ lo = cc absent.1 in
            (None, (eqb-true (slice_index b at) 0 absent.0, same), omega arith, omega arith)
        | inr other ↦
            let there = through (nat_eq (slice_index b at) 1) _ left other.1 in
            let m = (t.decides f).found b lo hi (at + T.align) left window (omega arith) there.1 in
            let l = t.lies _ _ _ _ _ _ m.1 in
            (Some m.0, (eqb-true (slice_index b at) 1 there.0, m.1), l.forward, l.kept)
      ]

  option_found : IsTrue (option_kind T).is_fitting → (b : List ℕ) (lo hi at left : ℕ) → lo ≤ hi → hi ≤ at → option_leaves T b lo hi at ≡ Some left → (o : Option T.Value) × MeansOption T b lo hi at left o
  option_found fits b lo hi at left window before e =
      let placed = placed_found b (option_size T) T.align at _ left e in
      let m = tagged_found fits b lo hi at left window before placed.1 in
      (m.0, option_of b lo hi at left m.0 m.2 m.3 before placed.0 m.1)

  tagged_only : IsTrue T.is_fitting → (b : List ℕ) (lo hi at left : ℕ) (o : Option T.Value) → MeansTagged T b lo hi at left o → tagged_leaves T b lo hi at ≡ Some left
  tagged_only fits b lo hi at left None m = rw (m.0, m.1) refl
  tagged_only fits b lo hi at left (Some v) m = rw m.0 ((t.decides fits).only b lo hi (at + T.align) left v m.1)

  option_only : IsTrue (option_kind T).is_fitting → (b : List ℕ) (lo hi at left : ℕ) (o : Option T.Value) → MeansOption T b lo hi at left o → option_leaves T b lo hi at ≡ Some left
  option_only fits b lo hi at left o m = placed_only b (option_size T) T.align at _ m.lies ∙ tagged_only (fitting_option T fits).value b lo hi at left o m.tagged

  option_is_read : (b : List ℕ) (lo hi at left : ℕ) (o : Option T.Value) → MeansOption T b lo hi at left o → o ≡ option_read T b at
  option_is_read b lo hi at left None m = rw m.tagged.0 refl
  option_is_read b lo hi at left (Some v) m = rw m.tagged.0 (ap Some (t.is_read b lo hi (at + T.align) left v m.tagged.1))

  left_once : (b : List ℕ) (lo hi at left left2 : ℕ) (o p : Option T.Value) → MeansTagged T b lo hi at left o → MeansTagged T b lo hi at left2 p → left ≡ left2
  left_once b lo hi at left left2 None None m n = m.1 ∙ sym n.1
  left_once b lo hi at left left2 None (Some w) m n = absurd (cc (sym m.0 ∙ n.0))
  left_once b lo hi at left left2 (Some v) None m n = absurd (cc (sym n.0 ∙ m.0))
  left_once b lo hi at left left2 (Some v) (Some w) m n = (t.one_meaning b lo hi (at + T.align) left left2 v w m.1 n.1).0

  pub option_laws : IsLawful (option_kind T)
  option_laws = record {
    alignment = t.alignment;
    whole = option_whole;
    size_fits = λ fits. (fitting_option T fits).size;
    lies = λ b lo hi at left o m. m.lies;
    local = option_local;
    widens = option_widens;
    one_meaning = λ b lo hi at left left2 o p m n. (left_once b lo hi at left left2 o p m.tagged n.tagged, option_is_read b lo hi at left o m ∙ sym (option_is_read b lo hi at left2 p n));
    is_read = option_is_read;
    decides = λ fits. record { found = option_found fits; only = option_only fits; within = λ b lo hi at left o m. (m.lies.forward, m.lies.kept) };
  }

  tagged_stands : IsTrue T.is_fitting → (b : List ℕ) (lo hi at left : ℕ) (o : Option T.Value) → slice_index b at ≡ 1 → MeansTagged T b lo hi at left o → IsTrue (stands T b (at + T.align))
  tagged_stands fits b lo hi at left None tag m = absurd (cc (sym tag ∙ m.0))
  tagged_stands fits b lo hi at left (Some v) tag m = stands_of t fits b lo hi (at + T.align) left v m.1

  -- where an option stands whose tag is 1, its value stands
  pub some_stands : (b : List ℕ) (at : ℕ) → IsTrue (stands (option_kind T) b at) → slice_index b at ≡ 1 → IsTrue (stands T b (at + T.align))
  some_stands b at h tag =
      let m = means_read option_laws b at h in
      tagged_stands (fitting_option T (fitting_of (option_kind T) b at h)).value b 0 at at m.left _ tag m.means.tagged

  -- and its tag lies in the buffer
  pub tag_inside : (b : List ℕ) (at : ℕ) → IsTrue (stands (option_kind T) b at) → at < length b
  tag_inside b at h =
      let m = means_read option_laws b at h in
      let positive = alignment_positive t.alignment in
      omega (arith, m.means.lies.inside, positive)
