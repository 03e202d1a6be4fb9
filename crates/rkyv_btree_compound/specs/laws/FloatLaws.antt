-- Archived floating-point numbers are lawful, and are read again as they were written.
use Rattle.std.specs.Prelude.{◌≡◌, ℕ, ◌<◌, ◌^◌, IsTrue, from_bits, to_bits}
use Rattle.std.specs.Bool.{passes}
use Rattle.std.specs.Float.Ieee.{Float, binary32, binary64, fits}
use Rattle.std.specs.Float.Ieee.Bits.{of_bits-to_bits, to_bits-lt}
use Rattle.std.specs.Int.{w32, w64, to_le_bytes}
use Rattle.std.proofs.Common.{refl, arith, ap, ◌∙◌}
use Rattle.rkyv_btree_portable.specs.Bytes.{from_le}
use Rattle.rkyv_btree_portable.specs.InPlace.{IsFaithful}
use Rattle.rkyv_btree_portable.specs.Kind.{IsLawful}
use Rattle.rkyv_btree_portable.specs.Rounding.{four, eight}
use Rattle.rkyv_btree_portable.specs.laws.Natives.{faithful}
use Rattle.rkyv_btree_portable.specs.laws.Plain.{plain_laws}
use Rattle.rkyv_btree_compound.specs.Floats.{f32_form, f64_form, f32_kind, f64_kind}

pub f32_laws : IsLawful f32_kind
f32_laws = plain_laws f32_form.plain four refl (omega arith)

pub f64_laws : IsLawful f64_kind
f64_laws = plain_laws f64_form.plain eight refl (omega arith)

number_back32 : (n : ℕ) → n < 2 ^ 32 → from_le (to_le_bytes w32 n) ≡ n
number_back32 n small = omega arith

number_back64 : (n : ℕ) → n < 2 ^ 64 → from_le (to_le_bytes w64 n) ≡ n
number_back64 n small = omega arith

-- what is read of the bytes of a number is this number
pub f32_back : (x : Float) → IsTrue (fits binary32 x) → f32_form.plain.value (f32_form.own_bytes x) ≡ x
f32_back x is_in =
    let fitting = passes (fits binary32 x) is_in in
    ap (from_bits binary32) (number_back32 (to_bits binary32 x) (to_bits-lt binary32 x fitting)) ∙ of_bits-to_bits binary32 x fitting

pub f64_back : (x : Float) → IsTrue (fits binary64 x) → f64_form.plain.value (f64_form.own_bytes x) ≡ x
f64_back x is_in =
    let fitting = passes (fits binary64 x) is_in in
    ap (from_bits binary64) (number_back64 (to_bits binary64 x) (to_bits-lt binary64 x fitting)) ∙ of_bits-to_bits binary64 x fitting

pub f32_faithful : IsFaithful f32_form
f32_faithful = faithful f32_form f32_laws (λ x. refl) (λ x. refl) f32_back (λ x y same. ap f32_form.own_bytes same)

pub f64_faithful : IsFaithful f64_form
f64_faithful = faithful f64_form f64_laws (λ x. refl) (λ x. refl) f64_back (λ x y same. ap f64_form.own_bytes same)
