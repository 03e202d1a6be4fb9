-- Types whose values lie in their own bytes alone, and pairs of such.
use Rattle.std.specs.Prelude.{◌≡◌, ℕ, ◌+◌, ◌≤◌, ◌↔◌, IsTrue, List, length}
use Rattle.std.proofs.Common.{arith, refl, sym, ap, subst, ◌∙◌}
use Rattle.std.proofs.Math.Nat.{zero-mod}
use Rattle.std.proofs.lemmas.List.{take_all}
use Rattle.rkyv_btree_portable.specs.Bytes.{bytes_at}
use Rattle.rkyv_btree_portable.specs.InPlace.{IsOwn, value_of, NativeForm, IsFaithful, InPlaceForm, LiesAlone, IsInPlace, scalar_form, pair_form}
use Rattle.rkyv_btree_portable.specs.Kind.{Kind, IsLawful}
use Rattle.rkyv_btree_portable.specs.Plain.{Plain, plain_kind}
use Rattle.rkyv_btree_portable.specs.Entry.{value_offset, entry_size, entry_kind, MeansEntry}
use Rattle.rkyv_btree_portable.specs.laws.EntryLaws.{key_inside, value_inside, entry_of_parts, fitting_entry}
use Rattle.rkyv_btree_portable.specs.laws.Holding.{tail_length, tail_held}
use Rattle.rkyv_btree_portable.specs.laws.Plain.{plain_own}
use Rattle.rkyv_btree_portable.specs.laws.Rounding.{aligned_left, aligned_right, aligned_add, round_up-aligned}
use Rattle.rkyv_btree_portable.specs.laws.Standing.{length-bytes_at, bytes_at-bytes_at}
use Rattle.rkyv_btree_portable.specs.Standing.{IsAligned}

-- own bytes alone, as a buffer, mean what they mean by themselves
pub alone_means : {kind : Kind} {own : List ℕ} → IsOwn kind own → length own ≤ 4294967295 → kind.Means own 0 0 0 0 (value_of kind own)
alone_means {kind} {own} is short = is.means own 0 0 0 short (omega arith) (omega arith) (zero-mod kind.align) (omega (arith, is.size)) (take_all kind.size own (omega (arith, is.size)))

-- what own bytes of a plain type mean by themselves
plain_value : (plain : Plain) (own : List ℕ) → IsOwn (plain_kind plain) own → value_of (plain_kind plain) own ≡ plain.value own
plain_value plain own is = ap plain.value (take_all plain.size own (omega (arith, is.size)))

-- own bytes of such a type are a value
pub plain_is_value : (plain : Plain) (own : List ℕ) → IsLawful (plain_kind plain) → IsOwn (plain_kind plain) own → IsTrue (plain.is_value own)
plain_is_value plain own lawful is =
    let m = alone_means is (omega (arith, is.size, lawful.size_fits refl)) in
    subst (λ (bytes : List ℕ). IsTrue (plain.is_value bytes)) (take_all plain.size own (omega (arith, is.size))) m.is_value

pub scalar_in_place : {X : Type 0} {form : NativeForm X} → IsFaithful form → IsInPlace (plain_kind form.plain) (scalar_form form)
scalar_in_place {X} {form} faithful = record {
  alone = record {
    unmoved = λ b lo hi at left v m. m.unmoved;
    is_own = λ b lo hi at left v m. plain_own form.plain (bytes_at b at form.plain.size) (length-bytes_at b at form.plain.size m.lies.inside) m.is_value;
  };
  written = faithful.is_own;
  same_model = λ _ b c p q. (λ e. plain_value form.plain b p ∙ (e ∙ sym (plain_value form.plain c q)), λ e. sym (plain_value form.plain b p) ∙ (e ∙ plain_value form.plain c q));
}

module _ (K V : Kind) (k : IsLawful K) (v : IsLawful V) where
  pair : (a c : K.Value) (b d : V.Value) → a ≡ c → b ≡ d → ◌≡◌ {A = K.Value × V.Value} (a, b) (c, d)
  pair a c b d p q = cc

  -- own bytes that are those of a key and of a value are those of an entry
  own_of_parts : (own : List ℕ) → length own ≡ entry_size K V → IsOwn K (bytes_at own 0 K.size) → IsOwn V (bytes_at own (value_offset K V) V.size) → IsOwn (entry_kind K V) own
  own_of_parts own size key value = record {
    size = size;
    means = λ b lo hi at short window before aligned inside same.
        let offset = value_offset K V in
        let key_room = key_inside K V k v in
        let value_room = value_inside K V k v in
        let first = own_part b own at 0 K.size same (omega arith) in
        let second = own_part b own at offset V.size same (omega arith) in
        let place = aligned_add V.align at offset (aligned_right at k.alignment v.alignment aligned) (round_up-aligned K.size V.align) in
        let key_here = key.means b lo hi at short window before (aligned_left at k.alignment v.alignment aligned) (omega arith) (ap (λ n. bytes_at b n K.size) (omega arith) ∙ first) in
        let value_here = value.means b lo hi (at + offset) short window (omega arith) place (omega arith) second in
        let key_alone = key.means own 0 0 0 (omega arith) (omega arith) (omega arith) (zero-mod K.align) (omega arith) refl in
        let from_start : offset ≡ 0 + offset = omega arith in
        let value_alone = value.means own 0 0 offset (omega arith) (omega arith) (omega arith) (round_up-aligned K.size V.align) (omega arith) refl in
        subst (λ e. MeansEntry K V b lo hi at lo e) (pair _ _ _ _ (k.is_read _ _ _ _ _ _ key_alone) (v.is_read _ _ _ _ _ _ value_alone ∙ ap (V.read own) from_start))
        (entry_of_parts K V k v b lo hi at lo _ _ before (record { short = short; room = inside; aligned = aligned }) (record { between = lo; key = key_here; value = value_here }));
  }
    where
      own_part : (b own : List ℕ) (at from count : ℕ) → bytes_at b at (entry_size K V) ≡ own → from + count ≤ entry_size K V → bytes_at b (at + from) count ≡ bytes_at own from count
      own_part b own at from count same room = sym (bytes_at-bytes_at b at (entry_size K V) from count room) ∙ ap (λ bytes. bytes_at bytes from count) same

  module _ {X Y : Type 0} {key : InPlaceForm X} {value : InPlaceForm Y} (ki : IsInPlace K key) (vi : IsInPlace V value) where
    both_models : (a c : key.Model) (b d : value.Model) → a ≡ c → b ≡ d → ◌≡◌ {A = key.Model × value.Model} (a, b) (c, d)
    both_models a c b d p q = cc

    alone : LiesAlone (entry_kind K V)
    alone = record {
      unmoved = λ b lo hi at left e m. vi.alone.unmoved _ _ _ _ _ _ m.parts.value ∙ ki.alone.unmoved _ _ _ _ _ _ m.parts.key;
      is_own = λ b lo hi at left e m.
          let key_room = key_inside K V k v in
          let value_room = value_inside K V k v in
          own_of_parts (bytes_at b at (entry_size K V)) (length-bytes_at b at (entry_size K V) m.lies.inside)
          (subst (IsOwn K) (ap (λ n. bytes_at b n K.size) (omega arith) ∙ sym (bytes_at-bytes_at b at (entry_size K V) 0 K.size (omega arith))) (ki.alone.is_own _ _ _ _ _ _ m.parts.key))
          (subst (IsOwn V) (sym (bytes_at-bytes_at b at (entry_size K V) (value_offset K V) V.size (omega arith))) (vi.alone.is_own _ _ _ _ _ _ m.parts.value));
    }

    module _ (x : X × Y) where
      abbrev own : List ℕ
      own = (pair_form K V key value).own_bytes x

      -- a pair's own bytes are so many, and hold those of its parts
      held : (length own ≡ entry_size K V) × (bytes_at own 0 K.size ≡ key.own_bytes x.0) × (bytes_at own (value_offset K V) V.size ≡ value.own_bytes x.1)
      held =
          let first = (ki.written x.0).size in
          let second = (vi.written x.1).size in
          let front : length (key.own_bytes x.0) ≤ value_offset K V = omega (arith, first, key_inside K V k v) in
          let back : value_offset K V + length (value.own_bytes x.1) ≤ entry_size K V = omega (arith, second, value_inside K V k v) in
          let parts = tail_held (key.own_bytes x.0) (value.own_bytes x.1) (value_offset K V) (entry_size K V) front back own 0 (take_all (length own) own (omega arith)) in (
            tail_length (key.own_bytes x.0) (value.own_bytes x.1) (value_offset K V) (entry_size K V) front back,
            ap (bytes_at own 0) (sym first) ∙ parts.0,
            ap (bytes_at own (value_offset K V)) (sym second) ∙ (ap (λ n. bytes_at own n (length (value.own_bytes x.1))) (omega arith) ∙ parts.1),
          )

      written : IsOwn (entry_kind K V) own
      written = own_of_parts own held.0 (subst (IsOwn K) (sym held.1) (ki.written x.0)) (subst (IsOwn V) (sym held.2) (vi.written x.1))

      -- where own bytes have the models of the parts, they have that of the pair
      pub model_of_pair : key.model_of_bytes (key.own_bytes x.0) ≡ key.model x.0 → value.model_of_bytes (value.own_bytes x.1) ≡ value.model x.1 → (pair_form K V key value).model_of_bytes own ≡ (pair_form K V key value).model x
      model_of_pair p q = both_models _ _ _ _ (ap key.model_of_bytes held.1 ∙ p) (ap value.model_of_bytes held.2 ∙ q)

    -- an entry's own bytes are those of its key and of its value, and mean what these mean
    pub parts : IsTrue (entry_kind K V).is_fitting → (own : List ℕ) → IsOwn (entry_kind K V) own → IsOwn K (bytes_at own 0 K.size) × IsOwn V (bytes_at own (value_offset K V) V.size)
        × (value_of (entry_kind K V) own ≡ (value_of K (bytes_at own 0 K.size), value_of V (bytes_at own (value_offset K V) V.size)))
    parts fits own is =
        let key_room = key_inside K V k v in
        let value_room = value_inside K V k v in
        let short : length own ≤ 4294967295 = omega (arith, is.size, (fitting_entry K V fits).size) in
        let m = alone_means is short in
        let first = ki.alone.is_own _ _ _ _ _ _ m.parts.key in
        let second : IsOwn V (bytes_at own (value_offset K V) V.size) = subst (λ n. IsOwn V (bytes_at own n V.size)) (omega arith) (vi.alone.is_own _ _ _ _ _ _ m.parts.value) in
        let key_alone = first.means own 0 0 0 short (omega arith) (omega arith) (zero-mod K.align) (omega (arith, is.size)) refl in
        let value_alone = second.means own 0 0 (0 + value_offset K V) short (omega arith) (omega arith) (subst (IsAligned V.align) (omega arith) (round_up-aligned K.size V.align)) (omega (arith, is.size)) (ap (λ n. bytes_at own n V.size) (omega arith)) in
        (first, second, pair _ _ _ _ (sym (k.is_read _ _ _ _ _ _ key_alone)) (sym (v.is_read _ _ _ _ _ _ value_alone)))

    same_model : IsTrue (entry_kind K V).is_fitting → (b c : List ℕ) → IsOwn (entry_kind K V) b → IsOwn (entry_kind K V) c → (pair_form K V key value).model_of_bytes b ≡ (pair_form K V key value).model_of_bytes c ↔ (value_of (entry_kind K V) b ≡ value_of (entry_kind K V) c)
    same_model fits b c p q =
        let f = fitting_entry K V fits in
        let x = parts fits b p in
        let y = parts fits c q in
        let first = ki.same_model f.key (bytes_at b 0 K.size) (bytes_at c 0 K.size) x.0 y.0 in
        let second = vi.same_model f.value (bytes_at b (value_offset K V) V.size) (bytes_at c (value_offset K V) V.size) x.1 y.1 in (
          λ e. x.2 ∙ (pair _ _ _ _ (first.0 (ap (λ e. e.0) e)) (second.0 (ap (λ e. e.1) e)) ∙ sym y.2),
          λ e. let both = sym x.2 ∙ (e ∙ y.2) in both_models _ _ _ _ (first.1 (ap (λ e. e.0) both)) (second.1 (ap (λ e. e.1) both)),
        )

    pub pair_in_place : IsInPlace (entry_kind K V) (pair_form K V key value)
    pair_in_place = record { alone = alone; written = written; same_model = same_model }
