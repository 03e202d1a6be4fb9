-- Tuples of fields that lie in their own bytes alone do so too, and so do their first fields.
use Rattle.std.specs.Prelude.{◌≡◌, ℕ, ◌+◌, ◌≤◌, ◌↔◌, IsTrue, List, length}
use Rattle.std.proofs.Common.{arith, refl, sym, ap, subst, ◌∙◌}
use Rattle.std.proofs.Math.Nat.{zero-mod}
use Rattle.std.proofs.lemmas.List.{take_all}
use Rattle.rkyv_btree_compound.specs.Joined.{joined_end, joined_kind, MeansJoined, IsLaidOut}
use Rattle.rkyv_btree_compound.specs.TupleInPlace.{joined_form, front_form, tuple_form}
use Rattle.rkyv_btree_compound.specs.Tuples.{front_kind, tuple_size, tuple_kind}
use Rattle.rkyv_btree_compound.specs.laws.JoinedLaws.{laid_out_of, fitting_joined, key_before, joined_of_parts}
use Rattle.rkyv_btree_compound.specs.laws.TupleLaws.{front_laid_out, last_inside}
use Rattle.rkyv_btree_portable.specs.Bytes.{bytes_at}
use Rattle.rkyv_btree_portable.specs.Entry.{value_offset}
use Rattle.rkyv_btree_portable.specs.InPlace.{IsOwn, value_of, InPlaceForm, LiesAlone, IsInPlace}
use Rattle.rkyv_btree_portable.specs.Kind.{Kind, IsLawful}
use Rattle.rkyv_btree_portable.specs.Standing.{IsAligned}
use Rattle.rkyv_btree_portable.specs.laws.Holding.{tail_length, tail_held}
use Rattle.rkyv_btree_portable.specs.laws.InPlace.{alone_means}
use Rattle.rkyv_btree_portable.specs.laws.Rounding.{aligned_left, aligned_right, aligned_add, round_up-aligned}
use Rattle.rkyv_btree_portable.specs.laws.Standing.{length-bytes_at, bytes_at-bytes_at}

module _ (K V : Kind) (k : IsLaidOut K) (v : IsLaidOut V) (size : ℕ) (room : joined_end K V ≤ size) where
  pair : (a c : K.Value) (b d : V.Value) → a ≡ c → b ≡ d → ◌≡◌ {A = K.Value × V.Value} (a, b) (c, d)
  pair a c b d p q = cc

  -- own bytes that are those of both values are those of both together
  own_of_parts : (own : List ℕ) → length own ≡ size → IsOwn K (bytes_at own 0 K.size) → IsOwn V (bytes_at own (value_offset K V) V.size) → IsOwn (joined_kind K V size) own
  own_of_parts own many key value = record {
    size = many;
    means = λ b lo hi at short window before aligned inside same.
        let offset = value_offset K V in
        let key_room = key_before K V k v in
        let first = own_part b own at 0 K.size same (omega arith) in
        let second = own_part b own at offset V.size same (omega arith) in
        let place = aligned_add V.align at offset (aligned_right at k.alignment v.alignment aligned) (round_up-aligned K.size V.align) in
        let key_here = key.means b lo hi at short window before (aligned_left at k.alignment v.alignment aligned) (omega arith) (ap (λ n. bytes_at b n K.size) (omega arith) ∙ first) in
        let value_here = value.means b lo hi (at + offset) short window (omega arith) place (omega arith) second in
        let key_alone = key.means own 0 0 0 (omega arith) (omega arith) (omega arith) (zero-mod K.align) (omega arith) refl in
        let from_start : offset ≡ 0 + offset = omega arith in
        let value_alone = value.means own 0 0 offset (omega arith) (omega arith) (omega arith) (round_up-aligned K.size V.align) (omega arith) refl in
        subst (λ e. MeansJoined K V size b lo hi at lo e) (pair _ _ _ _ (k.is_read _ _ _ _ _ _ key_alone) (v.is_read _ _ _ _ _ _ value_alone ∙ ap (V.read own) from_start))
        (joined_of_parts K V k v size room b lo hi at lo _ _ before (record { short = short; room = inside; aligned = aligned }) (record { between = lo; key = key_here; value = value_here }));
  }
    where
      own_part : (b own : List ℕ) (at from count : ℕ) → bytes_at b at size ≡ own → from + count ≤ size → bytes_at b (at + from) count ≡ bytes_at own from count
      own_part b own at from count same fits = sym (bytes_at-bytes_at b at size from count fits) ∙ ap (λ bytes. bytes_at bytes from count) same

  module _ {T X Y : Type 0} (parts_of : T → X × Y) {key : InPlaceForm X} {value : InPlaceForm Y} (ki : IsInPlace K key) (vi : IsInPlace V value) where
    abbrev form : InPlaceForm T
    form = joined_form parts_of K V size key value

    both_models : (a c : key.Model) (b d : value.Model) → a ≡ c → b ≡ d → ◌≡◌ {A = key.Model × value.Model} (a, b) (c, d)
    both_models a c b d p q = cc

    alone : LiesAlone (joined_kind K V size)
    alone = record {
      unmoved = λ b lo hi at left e m. vi.alone.unmoved _ _ _ _ _ _ m.parts.value ∙ ki.alone.unmoved _ _ _ _ _ _ m.parts.key;
      is_own = λ b lo hi at left e m.
          let key_room = key_before K V k v in
          own_of_parts (bytes_at b at size) (length-bytes_at b at size m.lies.inside)
          (subst (IsOwn K) (ap (λ n. bytes_at b n K.size) (omega arith) ∙ sym (bytes_at-bytes_at b at size 0 K.size (omega arith))) (ki.alone.is_own _ _ _ _ _ _ m.parts.key))
          (subst (IsOwn V) (sym (bytes_at-bytes_at b at size (value_offset K V) V.size (omega arith))) (vi.alone.is_own _ _ _ _ _ _ m.parts.value));
    }

    module _ (x : T) where
      abbrev own : List ℕ
      own = form.own_bytes x

      -- the own bytes of both are so many, and hold those of each
      pub held : (length own ≡ size) × (bytes_at own 0 K.size ≡ key.own_bytes (parts_of x).0) × (bytes_at own (value_offset K V) V.size ≡ value.own_bytes (parts_of x).1)
      held =
          let first = (ki.written (parts_of x).0).size in
          let second = (vi.written (parts_of x).1).size in
          let front : length (key.own_bytes (parts_of x).0) ≤ value_offset K V = omega (arith, first, key_before K V k v) in
          let back : value_offset K V + length (value.own_bytes (parts_of x).1) ≤ size = omega (arith, second, room) in
          let many = tail_length (key.own_bytes (parts_of x).0) (value.own_bytes (parts_of x).1) (value_offset K V) size front back in
          let parts = tail_held (key.own_bytes (parts_of x).0) (value.own_bytes (parts_of x).1) (value_offset K V) size front back own 0 (take_all (length own) own (omega arith)) in (
            many,
            ap (bytes_at own 0) (sym first) ∙ parts.0,
            ap (bytes_at own (value_offset K V)) (sym second) ∙ (ap (λ n. bytes_at own n (length (value.own_bytes (parts_of x).1))) (omega arith) ∙ parts.1),
          )

      written : IsOwn (joined_kind K V size) own
      written = own_of_parts own held.0 (subst (IsOwn K) (sym held.1) (ki.written (parts_of x).0)) (subst (IsOwn V) (sym held.2) (vi.written (parts_of x).1))

      -- where own bytes have the models of the parts, they have that of both
      pub model_of_joined : key.model_of_bytes (key.own_bytes (parts_of x).0) ≡ key.model (parts_of x).0 → value.model_of_bytes (value.own_bytes (parts_of x).1) ≡ value.model (parts_of x).1 → form.model_of_bytes own ≡ form.model x
      model_of_joined p q = both_models _ _ _ _ (ap key.model_of_bytes held.1 ∙ p) (ap value.model_of_bytes held.2 ∙ q)

    -- the own bytes of both are those of each, and mean what these mean
    pub parts : IsTrue (joined_kind K V size).is_fitting → (own : List ℕ) → IsOwn (joined_kind K V size) own → IsOwn K (bytes_at own 0 K.size) × IsOwn V (bytes_at own (value_offset K V) V.size)
        × (value_of (joined_kind K V size) own ≡ (value_of K (bytes_at own 0 K.size), value_of V (bytes_at own (value_offset K V) V.size)))
    parts fits own is =
        let key_room = key_before K V k v in
        let short : length own ≤ 4294967295 = omega (arith, is.size, (fitting_joined K V size fits).small) in
        let m = alone_means is short in
        let first = ki.alone.is_own _ _ _ _ _ _ m.parts.key in
        let second : IsOwn V (bytes_at own (value_offset K V) V.size) = subst (λ n. IsOwn V (bytes_at own n V.size)) (omega arith) (vi.alone.is_own _ _ _ _ _ _ m.parts.value) in
        let key_alone = first.means own 0 0 0 short (omega arith) (omega arith) (zero-mod K.align) (omega (arith, is.size)) refl in
        let value_alone = second.means own 0 0 (0 + value_offset K V) short (omega arith) (omega arith) (subst (IsAligned V.align) (omega arith) (round_up-aligned K.size V.align)) (omega (arith, is.size)) (ap (λ n. bytes_at own n V.size) (omega arith)) in
        (first, second, pair _ _ _ _ (sym (k.is_read _ _ _ _ _ _ key_alone)) (sym (v.is_read _ _ _ _ _ _ value_alone)))

    same_model : IsTrue (joined_kind K V size).is_fitting → (b c : List ℕ) → IsOwn (joined_kind K V size) b → IsOwn (joined_kind K V size) c → form.model_of_bytes b ≡ form.model_of_bytes c ↔ (value_of (joined_kind K V size) b ≡ value_of (joined_kind K V size) c)
    same_model fits b c p q =
        let f = fitting_joined K V size fits in
        let x = parts fits b p in
        let y = parts fits c q in
        let first = ki.same_model f.key (bytes_at b 0 K.size) (bytes_at c 0 K.size) x.0 y.0 in
        let second = vi.same_model f.value (bytes_at b (value_offset K V) V.size) (bytes_at c (value_offset K V) V.size) x.1 y.1 in (
          λ e. x.2 ∙ (pair _ _ _ _ (first.0 (ap (λ e. e.0) e)) (second.0 (ap (λ e. e.1) e)) ∙ sym y.2),
          λ e. let both = sym x.2 ∙ (e ∙ y.2) in both_models _ _ _ _ (first.1 (ap (λ e. e.0) both)) (second.1 (ap (λ e. e.1) both)),
        )

    pub joined_in_place : IsInPlace (joined_kind K V size) form
    joined_in_place = record { alone = alone; written = written; same_model = same_model }

-- fields that are laid out, and lie in their own bytes alone
pub record LieAlone (kind : Kind) {X : Type 0} (form : InPlaceForm X) : Type 0 where
  pub laid_out : IsLaidOut kind
  pub in_place : IsInPlace kind form

pub first_alone : {K : Kind} {X : Type 0} {form : InPlaceForm X} → IsLawful K → IsInPlace K form → LieAlone K form
first_alone k is = record { laid_out = laid_out_of k; in_place = is }

module _ {P L : Kind} {X Y : Type 0} {front : InPlaceForm X} {last : InPlaceForm Y} (f : LieAlone P front) (l : IsLawful L) (is : IsInPlace L last) where
  pub next_alone : LieAlone (front_kind P L) (front_form P L front last)
  next_alone = record {
    laid_out = front_laid_out P L f.laid_out (laid_out_of l);
    in_place = joined_in_place P L f.laid_out (laid_out_of l) (joined_end P L) (omega arith) (λ x. x) f.in_place is;
  }

  pub tuple_alone : {T : Type 0} (parts : T → X × Y) → IsInPlace (tuple_kind P L) (tuple_form parts P L front last)
  tuple_alone parts = joined_in_place P L f.laid_out (laid_out_of l) (tuple_size P L) (last_inside P L f.laid_out (laid_out_of l)) parts f.in_place is
