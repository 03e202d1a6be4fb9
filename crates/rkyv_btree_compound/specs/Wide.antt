-- Archived numbers of 128 bits, the least byte first, aligned to 16. Those other than 0 are such numbers without 0.
use Rattle.std.specs.Prelude.{FitsSigned, ℕ, zero, suc, ◌<◌, ◌^◌, ℤ, pos, negsuc, unsigned_abs}
use Rattle.std.specs.Hash as fed
use Rattle.std.specs.Int.{w128, to_le_bytes}
use Rattle.std.specs.Int.NonZero.{non_zero_u128_get, non_zero_i128_get}
use Rattle.std.specs.declared.num.NonZeroU128.{NonZeroU128}
use Rattle.std.specs.declared.num.NonZeroI128.{NonZeroI128}
use Rattle.rkyv_btree_portable.specs.InPlace.{NativeForm}
use Rattle.rkyv_btree_portable.specs.Kind.{Kind}
use Rattle.rkyv_btree_portable.specs.Natives.{own_signed, unsigned_form, signed_form}
use Rattle.rkyv_btree_portable.specs.NonZeros.{form_without_0}
use Rattle.rkyv_btree_portable.specs.Plain.{plain_kind}
use Rattle.rkyv_btree_portable.specs.laws.Positive.{suc_is_positive}

abbrev pub u128_form : NativeForm ℕ
u128_form = unsigned_form w128 fed.u128

-- in two's complement
abbrev pub i128_form : NativeForm ℤ
i128_form = signed_form w128 fed.i128

-- A number as one other than 0: 0 counts as the least of the type.
abbrev pub non_zero_u128 : ℕ → NonZeroU128
non_zero_u128 zero = record { value = 1; ok = suc_is_positive 0 }
non_zero_u128 (suc n) = record { value = suc n; ok = suc_is_positive n }

abbrev pub non_zero_i128 : ℤ → NonZeroI128
non_zero_i128 (pos zero) = record { value = negsuc 170141183460469231731687303715884105727; ok = suc_is_positive 170141183460469231731687303715884105727 }
non_zero_i128 (pos (suc n)) = record { value = pos (suc n); ok = suc_is_positive n }
non_zero_i128 (negsuc n) = record { value = negsuc n; ok = suc_is_positive n }

abbrev pub non_zero_u128_form : NativeForm NonZeroU128
non_zero_u128_form = form_without_0 u128_form.plain (λ n. n) non_zero_u128_get non_zero_u128 1 (to_le_bytes w128) (λ n. n < 2 ^ 128)

abbrev pub non_zero_i128_form : NativeForm NonZeroI128
non_zero_i128_form = form_without_0 i128_form.plain unsigned_abs non_zero_i128_get non_zero_i128 (pos 1) (own_signed w128) (FitsSigned w128)

abbrev pub u128_kind : Kind
u128_kind = plain_kind u128_form.plain

abbrev pub i128_kind : Kind
i128_kind = plain_kind i128_form.plain

abbrev pub non_zero_u128_kind : Kind
non_zero_u128_kind = plain_kind non_zero_u128_form.plain

abbrev pub non_zero_i128_kind : Kind
non_zero_i128_kind = plain_kind non_zero_i128_form.plain
