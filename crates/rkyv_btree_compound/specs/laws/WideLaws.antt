-- Archived numbers of 128 bits are lawful, and are read again as they were written.
use Rattle.std.specs.Prelude.{FitsSigned, ◌≡◌, ℕ, zero, suc, ◌<◌, ◌^◌, ℤ, pos, negsuc, unsigned_abs, true, nat_lt, if◌then◌else◌}
use Rattle.std.specs.Int.{w128, to_le_bytes, cast_signed, cast_unsigned}
use Rattle.std.specs.Int.NonZero.{non_zero_u128_get, non_zero_i128_get}
use Rattle.std.specs.declared.num.NonZeroU128.{NonZeroU128}
use Rattle.std.specs.declared.num.NonZeroI128.{NonZeroI128}
use Rattle.std.proofs.Common.{refl, sym, ap, arith, ◌∙◌}
use Rattle.std.proofs.Math.Facts.{Fits-of_z}
use Rattle.std.proofs.lemmas.Bool.{lt-ltb}
use Rattle.std.proofs.lemmas.Int.{to_z-of_z}
use mathlib.Core.HLevel.{is_prop→PathP}
use native.Mathlib.Bridge.{le_prop}
use Rattle.rkyv_btree_portable.specs.InPlace.{IsFaithful}
use Rattle.rkyv_btree_portable.specs.Kind.{IsLawful}
use Rattle.rkyv_btree_portable.specs.Natives.{own_signed}
use Rattle.rkyv_btree_portable.specs.Rounding.{sixteen}
use Rattle.rkyv_btree_portable.specs.laws.Natives.{faithful}
use Rattle.rkyv_btree_portable.specs.laws.NonZeros.{faithful_without_0, means_without_0}
use Rattle.rkyv_btree_portable.specs.laws.Plain.{plain_laws}
use Rattle.rkyv_btree_compound.specs.Wide.{u128_form, i128_form, u128_kind, i128_kind, non_zero_u128, non_zero_i128, non_zero_u128_form, non_zero_i128_form, non_zero_u128_kind, non_zero_i128_kind}

pub u128_laws : IsLawful u128_kind
u128_laws = plain_laws u128_form.plain sixteen refl (omega arith)

pub i128_laws : IsLawful i128_kind
i128_laws = plain_laws i128_form.plain sixteen refl (omega arith)

-- what is read of the bytes of a number is this number
pub u128_back : (n : ℕ) → n < 2 ^ 128 → u128_form.plain.value (u128_form.own_bytes n) ≡ n
u128_back n small = omega arith

pub i128_back : (n : ℤ) → FitsSigned w128 n → i128_form.plain.value (i128_form.own_bytes n) ≡ n
i128_back n is_in =
    let small = Fits-of_z {w = w128} {z = n} is_in in
    ap (cast_signed w128) (u128_back (cast_unsigned w128 n) (omega arith)) ∙ to_z-of_z w128 n is_in

pub u128_faithful : IsFaithful u128_form
u128_faithful = faithful u128_form u128_laws (λ n. refl) (λ n. refl) u128_back (λ x y same. ap u128_form.own_bytes same)

pub i128_faithful : IsFaithful i128_form
i128_faithful = faithful i128_form i128_laws (λ n. refl) (λ n. refl) i128_back (λ x y same. ap i128_form.own_bytes same)

-- A number other than 0 is the same as one of the same number.
pub same_u128 : (x y : NonZeroU128) → non_zero_u128_get x ≡ non_zero_u128_get y → x ≡ y
same_u128 x y q = λ i. record { value = q i; ok = is_prop→PathP (λ j. 0 < q j) (λ j. le_prop) x.ok y.ok i }

get_u128 : (n : ℕ) → 0 < n → non_zero_u128_get (non_zero_u128 n) ≡ n
get_u128 zero far = absurd (omega (arith, far))
get_u128 (suc n) far = refl

whole_u128 : (x : NonZeroU128) → non_zero_u128 (non_zero_u128_get x) ≡ x
whole_u128 x = same_u128 _ x (get_u128 (non_zero_u128_get x) x.ok)

pub same_i128 : (x y : NonZeroI128) → non_zero_i128_get x ≡ non_zero_i128_get y → x ≡ y
same_i128 x y q = λ i. record { value = q i; ok = is_prop→PathP (λ j. 0 < unsigned_abs (q j)) (λ j. le_prop) x.ok y.ok i }

get_i128 : (z : ℤ) → 0 < unsigned_abs z → non_zero_i128_get (non_zero_i128 z) ≡ z
get_i128 (pos zero) far = absurd (omega (arith, far))
get_i128 (pos (suc n)) far = refl
get_i128 (negsuc n) far = refl

whole_i128 : (x : NonZeroI128) → non_zero_i128 (non_zero_i128_get x) ≡ x
whole_i128 x = same_i128 _ x (get_i128 (non_zero_i128_get x) x.ok)

pub non_zero_u128_laws : IsLawful non_zero_u128_kind
non_zero_u128_laws = plain_laws non_zero_u128_form.plain sixteen refl (omega arith)

pub non_zero_u128_faithful : IsFaithful non_zero_u128_form
non_zero_u128_faithful = faithful_without_0 u128_form.plain (λ n. n) non_zero_u128_get non_zero_u128 1 (to_le_bytes w128) u128_form.IsIn non_zero_u128_laws (λ v. refl) refl u128_back whole_u128 (λ x. x.ok)

pub non_zero_i128_laws : IsLawful non_zero_i128_kind
non_zero_i128_laws = plain_laws non_zero_i128_form.plain sixteen refl (omega arith)

pub non_zero_i128_faithful : IsFaithful non_zero_i128_form
non_zero_i128_faithful = faithful_without_0 i128_form.plain unsigned_abs non_zero_i128_get non_zero_i128 (pos 1) (own_signed w128) i128_form.IsIn non_zero_i128_laws (λ v. refl) refl i128_back whole_i128 (λ x. x.ok)

-- the own bytes of a number other than 0 are those of the number, and mean it
pub non_zero_i128_own : (x : NonZeroI128) → non_zero_i128_form.IsIn x → own_signed w128 (non_zero_i128_get x) ≡ non_zero_i128_form.own_bytes x
non_zero_i128_own x is_in =
    let get = non_zero_i128_get x in
    let yes : nat_lt 0 (unsigned_abs (i128_form.plain.value (own_signed w128 get))) ≡ true = ap (λ v. nat_lt 0 (unsigned_abs v)) (i128_back get is_in) ∙ lt-ltb 0 (unsigned_abs get) x.ok in
    sym (ap (λ b. own_signed w128 (if b then get else pos 1)) yes)

pub non_zero_i128_means : (x : NonZeroI128) → non_zero_i128_form.IsIn x → non_zero_i128_form.plain.value (non_zero_i128_form.own_bytes x) ≡ x
non_zero_i128_means = means_without_0 i128_form.plain unsigned_abs non_zero_i128_get non_zero_i128 (pos 1) (own_signed w128) i128_form.IsIn i128_back whole_i128 (λ x. x.ok)
