-- The own bytes of native values mean these.
use Rattle.std.specs.Prelude.{FitsSigned, ◌≡◌, ℕ, ℤ, ◌<◌, ◌^◌, Bool, true, false, IsTrue, length, nat_lt, if◌then◌else◌}
use Rattle.std.specs.Int.{Width, w8, w16, w32, w64, to_le_bytes, cast_signed, cast_unsigned}
use Rattle.std.specs.Int.NonZero.{non_zero_u32_get}
use Rattle.std.specs.declared.num.NonZeroU32.{NonZeroU32}
use Rattle.std.proofs.Common.{refl, ap, arith, ◌∙◌}
use Rattle.std.proofs.Math.Facts.{Fits-of_z}
use Rattle.std.proofs.Math.Utf8.{scalar, scalar_fits}
use Rattle.std.proofs.lemmas.Bool.{lt-ltb, ltb-true}
use Rattle.std.proofs.lemmas.Int.{to_z-of_z}
use Rattle.std.proofs.lemmas.List.{take_all}
use Rattle.rkyv_btree_portable.specs.Bytes.{from_le}
use Rattle.rkyv_btree_portable.specs.InPlace.{NativeForm, IsFaithful}
use Rattle.rkyv_btree_portable.specs.Kind.{IsLawful}
use Rattle.rkyv_btree_portable.specs.Natives.{own_signed, own_bool, own_char, own_non_zero, u8_form, u16_form, u32_form, u64_form, i8_form, i16_form, i32_form, i64_form, bool_form, unit_form, char_form, non_zero_form}
use Rattle.rkyv_btree_portable.specs.Plain.{plain_kind}
use Rattle.rkyv_btree_portable.specs.laws.Choices.{taken}
use Rattle.rkyv_btree_portable.specs.laws.Plain.{plain_own}
use Rattle.rkyv_btree_portable.specs.laws.Scalars.{u8_laws, u16_laws, u32_laws, u64_laws, i8_laws, i16_laws, i32_laws, i64_laws, bool_laws, unit_laws, char_laws, non_zero_laws}

-- a form is faithful if its own bytes are so many, are a value, are the value's, and follow from its meaning
pub faithful : {X : Type 0} (form : NativeForm X) → IsLawful (plain_kind form.plain) → ((x : X) → length (form.own_bytes x) ≡ form.plain.size) → ((x : X) → IsTrue (form.plain.is_value (form.own_bytes x))) → ((x : X) → form.IsIn x → form.plain.value (form.own_bytes x) ≡ form.meaning x) → ((x y : X) → form.meaning x ≡ form.meaning y → form.own_bytes x ≡ form.own_bytes y) → IsFaithful form
faithful form lawful size valid means one_own = record {
  lawful = lawful;
  is_own = λ x. plain_own form.plain (form.own_bytes x) (size x) (valid x);
  means = λ x is_in. ap form.plain.value (take_all form.plain.size (form.own_bytes x) (omega (arith, size x))) ∙ means x is_in;
  one_own = one_own;
}

pub u8_faithful : IsFaithful u8_form
u8_faithful = faithful u8_form u8_laws (λ n. refl) (λ n. refl) (λ n small. omega arith) (λ x y same. ap u8_form.own_bytes same)

pub u16_faithful : IsFaithful u16_form
u16_faithful = faithful u16_form u16_laws (λ n. refl) (λ n. refl) (λ n small. omega arith) (λ x y same. ap u16_form.own_bytes same)

pub u32_faithful : IsFaithful u32_form
u32_faithful = faithful u32_form u32_laws (λ n. refl) (λ n. refl) (λ n small. omega arith) (λ x y same. ap u32_form.own_bytes same)

pub u64_faithful : IsFaithful u64_form
u64_faithful = faithful u64_form u64_laws (λ n. refl) (λ n. refl) (λ n small. omega arith) (λ x y same. ap u64_form.own_bytes same)

-- a signed number of a width for which the bytes of a number give it back
signed_told : (w : Width) (n : ℤ) → FitsSigned w n → from_le (own_signed w n) ≡ cast_unsigned w n → cast_signed w (from_le (own_signed w n)) ≡ n
signed_told w n fits back = ap (cast_signed w) back ∙ to_z-of_z w n fits

pub i8_faithful : IsFaithful i8_form
i8_faithful = faithful i8_form i8_laws (λ n. refl) (λ n. refl) (λ n fits. signed_told w8 n fits (let small = Fits-of_z {w = w8} {z = n} fits in omega arith)) (λ x y same. ap i8_form.own_bytes same)

pub i16_faithful : IsFaithful i16_form
i16_faithful = faithful i16_form i16_laws (λ n. refl) (λ n. refl) (λ n fits. signed_told w16 n fits (let small = Fits-of_z {w = w16} {z = n} fits in omega arith)) (λ x y same. ap i16_form.own_bytes same)

pub i32_faithful : IsFaithful i32_form
i32_faithful = faithful i32_form i32_laws (λ n. refl) (λ n. refl) (λ n fits. signed_told w32 n fits (let small = Fits-of_z {w = w32} {z = n} fits in omega arith)) (λ x y same. ap i32_form.own_bytes same)

pub i64_faithful : IsFaithful i64_form
i64_faithful = faithful i64_form i64_laws (λ n. refl) (λ n. refl) (λ n fits. signed_told w64 n fits (let small = Fits-of_z {w = w64} {z = n} fits in omega arith)) (λ x y same. ap i64_form.own_bytes same)

pub bool_faithful : IsFaithful bool_form
bool_faithful = faithful bool_form bool_laws size valid means (λ x y same. ap bool_form.own_bytes same)
  where
    size : (b : Bool) → length (own_bool b) ≡ 1
    size true = refl
    size false = refl

    valid : (b : Bool) → IsTrue (bool_form.plain.is_value (own_bool b))
    valid true = refl
    valid false = refl

    means : (b : Bool) → Unit {0} → bool_form.plain.value (own_bool b) ≡ b
    means true is_in = refl
    means false is_in = refl

pub unit_faithful : IsFaithful unit_form
unit_faithful = faithful unit_form unit_laws (λ u. refl) (λ u. refl) (λ u is_in. refl) (λ x y same. ap unit_form.own_bytes same)

-- a number of 32 bits is read of its own bytes
read_back : (n : ℕ) → n < 2 ^ 32 → from_le (to_le_bytes w32 n) ≡ n
read_back n small = omega arith

-- a test that takes a number takes what is read of its own bytes
valid_back : (is_value : ℕ → Bool) (n : ℕ) → n < 2 ^ 32 → IsTrue (is_value n) → IsTrue (is_value (from_le (to_le_bytes w32 n)))
valid_back is_value n small valid = rw (read_back n small) valid

-- the number that a test took is read of its own bytes
read_if : (b : Bool) (n other : ℕ) → b ≡ true → n < 2 ^ 32 → from_le (to_le_bytes w32 (if b then n else other)) ≡ n
read_if b n other e small = rw e (read_back n small)

pub char_faithful : IsFaithful char_form
char_faithful = faithful char_form char_laws (λ c. refl) valid (λ c is_in. read_if (scalar c) c 0 is_in (scalar_fits c is_in)) (λ x y same. ap char_form.own_bytes same)
  where
    valid : (c : ℕ) → IsTrue (scalar (from_le (own_char c)))
    valid c = taken (λ n. IsTrue (scalar (from_le (to_le_bytes w32 n)))) (scalar c) c 0 (λ s. valid_back scalar c (scalar_fits c s) s) refl

pub non_zero_faithful : IsFaithful non_zero_form
non_zero_faithful = faithful non_zero_form non_zero_laws (λ n. refl) valid (λ n small. read_if (nat_lt (non_zero_u32_get n) (2 ^ 32)) (non_zero_u32_get n) 1 (lt-ltb (non_zero_u32_get n) (2 ^ 32) small) small) (λ x y same. ap (λ (n : ℕ). to_le_bytes w32 (if nat_lt n (2 ^ 32) then n else 1)) same)
  where
    valid : (n : NonZeroU32) → IsTrue (nat_lt 0 (from_le (own_non_zero n)))
    valid n =
        let get = non_zero_u32_get n in
        taken (λ k. IsTrue (nat_lt 0 (from_le (to_le_bytes w32 k)))) (nat_lt get (2 ^ 32)) get 1 (λ small. valid_back (nat_lt 0) get (ltb-true get (2 ^ 32) small) (lt-ltb 0 get n.ok)) refl
