-- Numbers other than 0 are lawful, and the own bytes of each mean it.
use Rattle.std.specs.Prelude.{◌≡◌, ℕ, zero, suc, ◌<◌, ℤ, pos, negsuc, unsigned_abs, Bool, true, false, IsTrue, List, length, nat_lt, if◌then◌else◌}
use Rattle.std.specs.Int.{w8, w16, w32, w64, to_le_bytes}
use Rattle.std.specs.Int.NonZero.{non_zero_u8_get, non_zero_u16_get, non_zero_u64_get, non_zero_i8_get, non_zero_i16_get, non_zero_i32_get, non_zero_i64_get}
use Rattle.std.specs.declared.num.NonZeroU8.{NonZeroU8}
use Rattle.std.specs.declared.num.NonZeroU16.{NonZeroU16}
use Rattle.std.specs.declared.num.NonZeroU64.{NonZeroU64}
use Rattle.std.specs.declared.num.NonZeroI8.{NonZeroI8}
use Rattle.std.specs.declared.num.NonZeroI16.{NonZeroI16}
use Rattle.std.specs.declared.num.NonZeroI32.{NonZeroI32}
use Rattle.std.specs.declared.num.NonZeroI64.{NonZeroI64}
use Rattle.std.proofs.Common.{refl, ap, sym, arith, ◌∙◌}
use Rattle.std.proofs.lemmas.List.{take_all}
use Rattle.std.proofs.lemmas.Bool.{lt-ltb}
use mathlib.Core.HLevel.{is_prop→PathP}
use native.Mathlib.Bridge.{le_prop}
use Rattle.rkyv_btree_portable.specs.InPlace.{IsFaithful}
use Rattle.rkyv_btree_portable.specs.Kind.{IsLawful}
use Rattle.rkyv_btree_portable.specs.Natives.{own_signed, u8_form, u16_form, u64_form, i8_form, i16_form, i32_form, i64_form}
use Rattle.rkyv_btree_portable.specs.NonZeros.{without_0, form_without_0, non_zero_u8, non_zero_u8_form, non_zero_u8_kind, non_zero_u16, non_zero_u16_form, non_zero_u16_kind, non_zero_u64, non_zero_u64_form, non_zero_u64_kind, non_zero_i8, non_zero_i8_form, non_zero_i8_kind, non_zero_i16, non_zero_i16_form, non_zero_i16_kind, non_zero_i32, non_zero_i32_form, non_zero_i32_kind, non_zero_i64, non_zero_i64_form, non_zero_i64_kind}
use Rattle.rkyv_btree_portable.specs.Plain.{Plain, plain_kind}
use Rattle.rkyv_btree_portable.specs.Rounding.{one, two, four, eight}
use Rattle.rkyv_btree_portable.specs.laws.Natives.{faithful, u8_faithful, u16_faithful, u64_faithful, i8_faithful, i16_faithful, i32_faithful, i64_faithful}
use Rattle.rkyv_btree_portable.specs.laws.Plain.{plain_laws}

-- a value that a test takes, or another one of which the test knows
kept : {X : Type 0} (P : X → Type 0) (b : Bool) (x other : X) → (IsTrue b → P x) → P other → P (if b then x else other)
kept P true x other h o = h refl
kept P false x other h o = o

-- the values without 0 of a type of numbers, of which the own bytes of one give it back
module _ (plain : Plain) {N : Type 0} (distance : plain.Value → ℕ) (get : N → plain.Value) (of : plain.Value → N) (other : plain.Value) (own : plain.Value → List ℕ) (IsIn : plain.Value → Type 0) where
  valid_without_0 : IsTrue (nat_lt 0 (distance (plain.value (own other)))) → (x : N) → IsTrue (nat_lt 0 (distance (plain.value ((form_without_0 plain distance get of other own IsIn).own_bytes x))))
  valid_without_0 seen x = kept (λ v. IsTrue (nat_lt 0 (distance (plain.value (own v))))) (nat_lt 0 (distance (plain.value (own (get x))))) (get x) other (λ yes. yes) seen

  pub means_without_0 : ((v : plain.Value) → IsIn v → plain.value (own v) ≡ v) → ((x : N) → of (get x) ≡ x) → ((x : N) → 0 < distance (get x)) → (x : N) → IsIn (get x) → of (plain.value ((form_without_0 plain distance get of other own IsIn).own_bytes x)) ≡ x
  means_without_0 back whole far x is_in =
      let here = back (get x) is_in in
      let yes : nat_lt 0 (distance (plain.value (own (get x)))) ≡ true = ap (λ v. nat_lt 0 (distance v)) here ∙ lt-ltb 0 (distance (get x)) (far x) in
      ap (λ b. of (plain.value (own (if b then get x else other)))) yes ∙ (ap of here ∙ whole x)

  pub faithful_without_0 : IsLawful (plain_kind (without_0 plain distance get of)) → ((v : plain.Value) → length (own v) ≡ plain.size) → IsTrue (nat_lt 0 (distance (plain.value (own other)))) → ((v : plain.Value) → IsIn v → plain.value (own v) ≡ v) → ((x : N) → of (get x) ≡ x) → ((x : N) → 0 < distance (get x)) → IsFaithful (form_without_0 plain distance get of other own IsIn)
  faithful_without_0 lawful size seen back whole far =
      let form = form_without_0 plain distance get of other own IsIn in
      faithful form lawful (λ x. size _) (valid_without_0 seen) (means_without_0 back whole far) (λ x y same. ap form.own_bytes same)

-- the own bytes of a number give it back
told_u8 : (v : ℕ) → u8_form.IsIn v → u8_form.plain.value (u8_form.own_bytes v) ≡ v
told_u8 v is_in = ap u8_form.plain.value (sym (take_all 1 (u8_form.own_bytes v) (omega arith))) ∙ u8_faithful.means v is_in

told_u16 : (v : ℕ) → u16_form.IsIn v → u16_form.plain.value (u16_form.own_bytes v) ≡ v
told_u16 v is_in = ap u16_form.plain.value (sym (take_all 2 (u16_form.own_bytes v) (omega arith))) ∙ u16_faithful.means v is_in

told_u64 : (v : ℕ) → u64_form.IsIn v → u64_form.plain.value (u64_form.own_bytes v) ≡ v
told_u64 v is_in = ap u64_form.plain.value (sym (take_all 8 (u64_form.own_bytes v) (omega arith))) ∙ u64_faithful.means v is_in

told_i8 : (v : ℤ) → i8_form.IsIn v → i8_form.plain.value (i8_form.own_bytes v) ≡ v
told_i8 v is_in = ap i8_form.plain.value (sym (take_all 1 (i8_form.own_bytes v) (omega arith))) ∙ i8_faithful.means v is_in

told_i16 : (v : ℤ) → i16_form.IsIn v → i16_form.plain.value (i16_form.own_bytes v) ≡ v
told_i16 v is_in = ap i16_form.plain.value (sym (take_all 2 (i16_form.own_bytes v) (omega arith))) ∙ i16_faithful.means v is_in

told_i32 : (v : ℤ) → i32_form.IsIn v → i32_form.plain.value (i32_form.own_bytes v) ≡ v
told_i32 v is_in = ap i32_form.plain.value (sym (take_all 4 (i32_form.own_bytes v) (omega arith))) ∙ i32_faithful.means v is_in

told_i64 : (v : ℤ) → i64_form.IsIn v → i64_form.plain.value (i64_form.own_bytes v) ≡ v
told_i64 v is_in = ap i64_form.plain.value (sym (take_all 8 (i64_form.own_bytes v) (omega arith))) ∙ i64_faithful.means v is_in

-- A number other than 0 is the same as one of the same number.
pub same_u8 : (x y : NonZeroU8) → non_zero_u8_get x ≡ non_zero_u8_get y → x ≡ y
same_u8 x y q = λ i. record { value = q i; ok = is_prop→PathP (λ j. 0 < q j) (λ j. le_prop) x.ok y.ok i }

get_u8 : (n : ℕ) → 0 < n → non_zero_u8_get (non_zero_u8 n) ≡ n
get_u8 zero far = absurd (omega (arith, far))
get_u8 (suc n) far = refl

pub whole_u8 : (x : NonZeroU8) → non_zero_u8 (non_zero_u8_get x) ≡ x
whole_u8 x = same_u8 _ x (get_u8 (non_zero_u8_get x) x.ok)

pub same_u16 : (x y : NonZeroU16) → non_zero_u16_get x ≡ non_zero_u16_get y → x ≡ y
same_u16 x y q = λ i. record { value = q i; ok = is_prop→PathP (λ j. 0 < q j) (λ j. le_prop) x.ok y.ok i }

get_u16 : (n : ℕ) → 0 < n → non_zero_u16_get (non_zero_u16 n) ≡ n
get_u16 zero far = absurd (omega (arith, far))
get_u16 (suc n) far = refl

pub whole_u16 : (x : NonZeroU16) → non_zero_u16 (non_zero_u16_get x) ≡ x
whole_u16 x = same_u16 _ x (get_u16 (non_zero_u16_get x) x.ok)

pub same_u64 : (x y : NonZeroU64) → non_zero_u64_get x ≡ non_zero_u64_get y → x ≡ y
same_u64 x y q = λ i. record { value = q i; ok = is_prop→PathP (λ j. 0 < q j) (λ j. le_prop) x.ok y.ok i }

get_u64 : (n : ℕ) → 0 < n → non_zero_u64_get (non_zero_u64 n) ≡ n
get_u64 zero far = absurd (omega (arith, far))
get_u64 (suc n) far = refl

pub whole_u64 : (x : NonZeroU64) → non_zero_u64 (non_zero_u64_get x) ≡ x
whole_u64 x = same_u64 _ x (get_u64 (non_zero_u64_get x) x.ok)

pub same_i8 : (x y : NonZeroI8) → non_zero_i8_get x ≡ non_zero_i8_get y → x ≡ y
same_i8 x y q = λ i. record { value = q i; ok = is_prop→PathP (λ j. 0 < unsigned_abs (q j)) (λ j. le_prop) x.ok y.ok i }

get_i8 : (z : ℤ) → 0 < unsigned_abs z → non_zero_i8_get (non_zero_i8 z) ≡ z
get_i8 (pos zero) far = absurd (omega (arith, far))
get_i8 (pos (suc n)) far = refl
get_i8 (negsuc n) far = refl

pub whole_i8 : (x : NonZeroI8) → non_zero_i8 (non_zero_i8_get x) ≡ x
whole_i8 x = same_i8 _ x (get_i8 (non_zero_i8_get x) x.ok)

pub same_i16 : (x y : NonZeroI16) → non_zero_i16_get x ≡ non_zero_i16_get y → x ≡ y
same_i16 x y q = λ i. record { value = q i; ok = is_prop→PathP (λ j. 0 < unsigned_abs (q j)) (λ j. le_prop) x.ok y.ok i }

get_i16 : (z : ℤ) → 0 < unsigned_abs z → non_zero_i16_get (non_zero_i16 z) ≡ z
get_i16 (pos zero) far = absurd (omega (arith, far))
get_i16 (pos (suc n)) far = refl
get_i16 (negsuc n) far = refl

pub whole_i16 : (x : NonZeroI16) → non_zero_i16 (non_zero_i16_get x) ≡ x
whole_i16 x = same_i16 _ x (get_i16 (non_zero_i16_get x) x.ok)

pub same_i32 : (x y : NonZeroI32) → non_zero_i32_get x ≡ non_zero_i32_get y → x ≡ y
same_i32 x y q = λ i. record { value = q i; ok = is_prop→PathP (λ j. 0 < unsigned_abs (q j)) (λ j. le_prop) x.ok y.ok i }

get_i32 : (z : ℤ) → 0 < unsigned_abs z → non_zero_i32_get (non_zero_i32 z) ≡ z
get_i32 (pos zero) far = absurd (omega (arith, far))
get_i32 (pos (suc n)) far = refl
get_i32 (negsuc n) far = refl

pub whole_i32 : (x : NonZeroI32) → non_zero_i32 (non_zero_i32_get x) ≡ x
whole_i32 x = same_i32 _ x (get_i32 (non_zero_i32_get x) x.ok)

pub same_i64 : (x y : NonZeroI64) → non_zero_i64_get x ≡ non_zero_i64_get y → x ≡ y
same_i64 x y q = λ i. record { value = q i; ok = is_prop→PathP (λ j. 0 < unsigned_abs (q j)) (λ j. le_prop) x.ok y.ok i }

get_i64 : (z : ℤ) → 0 < unsigned_abs z → non_zero_i64_get (non_zero_i64 z) ≡ z
get_i64 (pos zero) far = absurd (omega (arith, far))
get_i64 (pos (suc n)) far = refl
get_i64 (negsuc n) far = refl

pub whole_i64 : (x : NonZeroI64) → non_zero_i64 (non_zero_i64_get x) ≡ x
whole_i64 x = same_i64 _ x (get_i64 (non_zero_i64_get x) x.ok)

pub non_zero_u8_laws : IsLawful non_zero_u8_kind
non_zero_u8_laws = plain_laws non_zero_u8_form.plain one refl (omega arith)

pub non_zero_u8_faithful : IsFaithful non_zero_u8_form
non_zero_u8_faithful = faithful_without_0 u8_form.plain (λ n. n) non_zero_u8_get non_zero_u8 1 (to_le_bytes w8) u8_form.IsIn non_zero_u8_laws (λ v. refl) refl (λ v is_in. told_u8 v is_in) whole_u8 (λ x. x.ok)

pub non_zero_u16_laws : IsLawful non_zero_u16_kind
non_zero_u16_laws = plain_laws non_zero_u16_form.plain two refl (omega arith)

pub non_zero_u16_faithful : IsFaithful non_zero_u16_form
non_zero_u16_faithful = faithful_without_0 u16_form.plain (λ n. n) non_zero_u16_get non_zero_u16 1 (to_le_bytes w16) u16_form.IsIn non_zero_u16_laws (λ v. refl) refl (λ v is_in. told_u16 v is_in) whole_u16 (λ x. x.ok)

pub non_zero_u64_laws : IsLawful non_zero_u64_kind
non_zero_u64_laws = plain_laws non_zero_u64_form.plain eight refl (omega arith)

pub non_zero_u64_faithful : IsFaithful non_zero_u64_form
non_zero_u64_faithful = faithful_without_0 u64_form.plain (λ n. n) non_zero_u64_get non_zero_u64 1 (to_le_bytes w64) u64_form.IsIn non_zero_u64_laws (λ v. refl) refl (λ v is_in. told_u64 v is_in) whole_u64 (λ x. x.ok)

pub non_zero_i8_laws : IsLawful non_zero_i8_kind
non_zero_i8_laws = plain_laws non_zero_i8_form.plain one refl (omega arith)

pub non_zero_i8_faithful : IsFaithful non_zero_i8_form
non_zero_i8_faithful = faithful_without_0 i8_form.plain unsigned_abs non_zero_i8_get non_zero_i8 (pos 1) (own_signed w8) i8_form.IsIn non_zero_i8_laws (λ v. refl) refl (λ v is_in. told_i8 v is_in) whole_i8 (λ x. x.ok)

pub non_zero_i16_laws : IsLawful non_zero_i16_kind
non_zero_i16_laws = plain_laws non_zero_i16_form.plain two refl (omega arith)

pub non_zero_i16_faithful : IsFaithful non_zero_i16_form
non_zero_i16_faithful = faithful_without_0 i16_form.plain unsigned_abs non_zero_i16_get non_zero_i16 (pos 1) (own_signed w16) i16_form.IsIn non_zero_i16_laws (λ v. refl) refl (λ v is_in. told_i16 v is_in) whole_i16 (λ x. x.ok)

pub non_zero_i32_laws : IsLawful non_zero_i32_kind
non_zero_i32_laws = plain_laws non_zero_i32_form.plain four refl (omega arith)

pub non_zero_i32_faithful : IsFaithful non_zero_i32_form
non_zero_i32_faithful = faithful_without_0 i32_form.plain unsigned_abs non_zero_i32_get non_zero_i32 (pos 1) (own_signed w32) i32_form.IsIn non_zero_i32_laws (λ v. refl) refl (λ v is_in. told_i32 v is_in) whole_i32 (λ x. x.ok)

pub non_zero_i64_laws : IsLawful non_zero_i64_kind
non_zero_i64_laws = plain_laws non_zero_i64_form.plain eight refl (omega arith)

pub non_zero_i64_faithful : IsFaithful non_zero_i64_form
non_zero_i64_faithful = faithful_without_0 i64_form.plain unsigned_abs non_zero_i64_get non_zero_i64 (pos 1) (own_signed w64) i64_form.IsIn non_zero_i64_laws (λ v. refl) refl (λ v is_in. told_i64 v is_in) whole_i64 (λ x. x.ok)

pub non_zero_i64_means : (x : NonZeroI64) → non_zero_i64_form.IsIn x → non_zero_i64_form.plain.value (non_zero_i64_form.own_bytes x) ≡ x
non_zero_i64_means = means_without_0 i64_form.plain unsigned_abs non_zero_i64_get non_zero_i64 (pos 1) (own_signed w64) i64_form.IsIn (λ v is_in. told_i64 v is_in) whole_i64 (λ x. x.ok)
