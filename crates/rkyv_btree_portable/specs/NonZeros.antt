-- Numbers other than 0: those of a type of numbers, without 0.
use Rattle.std.specs.Prelude.{FitsSigned, ℕ, zero, suc, ◌<◌, ◌^◌, ℤ, pos, negsuc, unsigned_abs, List, nat_lt, if◌then◌else◌}
use Rattle.std.specs.Hash as fed
use Rattle.std.specs.Int.{w8, w16, w32, w64, to_le_bytes}
use Rattle.std.specs.Int.NonZero.{non_zero_u8_get, non_zero_u16_get, non_zero_u64_get, non_zero_i8_get, non_zero_i16_get, non_zero_i32_get, non_zero_i64_get}
use Rattle.std.specs.declared.num.NonZeroU8.{NonZeroU8}
use Rattle.std.specs.declared.num.NonZeroU16.{NonZeroU16}
use Rattle.std.specs.declared.num.NonZeroU64.{NonZeroU64}
use Rattle.std.specs.declared.num.NonZeroI8.{NonZeroI8}
use Rattle.std.specs.declared.num.NonZeroI16.{NonZeroI16}
use Rattle.std.specs.declared.num.NonZeroI32.{NonZeroI32}
use Rattle.std.specs.declared.num.NonZeroI64.{NonZeroI64}
use Rattle.rkyv_btree_portable.specs.InPlace.{NativeForm}
use Rattle.rkyv_btree_portable.specs.Kind.{Kind}
use Rattle.rkyv_btree_portable.specs.Natives.{own_signed}
use Rattle.rkyv_btree_portable.specs.Plain.{Plain, plain_kind}
use Rattle.rkyv_btree_portable.specs.Scalars.{number, signed}
use Rattle.rkyv_btree_portable.specs.laws.Positive.{suc_is_positive}

-- the values of a type of numbers whose distance from 0 isn't 0, as values of another type
abbrev pub without_0 : (plain : Plain) {N : Type 0} → (plain.Value → ℕ) → (N → plain.Value) → (plain.Value → N) → Plain
without_0 plain {N} distance get of = record {
  Value = N;
  size = plain.size;
  align = plain.align;
  is_value = λ bytes. nat_lt 0 (distance (plain.value bytes));
  value = λ bytes. of (plain.value bytes);
  same = λ x y. plain.same (get x) (get y);
  order = λ x y. plain.order (get x) (get y);
  hash_input = λ x. plain.hash_input (get x);
}

-- A law also ranges over numbers that the type doesn't have: those whose bytes would mean 0 get the bytes of another one.
abbrev pub form_without_0 : (plain : Plain) {N : Type 0} → (plain.Value → ℕ) → (N → plain.Value) → (plain.Value → N) → plain.Value → (plain.Value → List ℕ) → (plain.Value → Type 0) → NativeForm N
form_without_0 plain distance get of other own IsIn = record {
  plain = without_0 plain distance get of;
  own_bytes = λ x. own (if nat_lt 0 (distance (plain.value (own (get x)))) then get x else other);
  IsIn = λ x. IsIn (get x);
  meaning = λ x. x;
}

-- A number as one other than 0: 0 counts as the least of the type.
abbrev pub non_zero_u8 : ℕ → NonZeroU8
non_zero_u8 zero = record { value = 1; ok = suc_is_positive 0 }
non_zero_u8 (suc n) = record { value = suc n; ok = suc_is_positive n }

abbrev pub non_zero_u16 : ℕ → NonZeroU16
non_zero_u16 zero = record { value = 1; ok = suc_is_positive 0 }
non_zero_u16 (suc n) = record { value = suc n; ok = suc_is_positive n }

abbrev pub non_zero_u64 : ℕ → NonZeroU64
non_zero_u64 zero = record { value = 1; ok = suc_is_positive 0 }
non_zero_u64 (suc n) = record { value = suc n; ok = suc_is_positive n }

abbrev pub non_zero_i8 : ℤ → NonZeroI8
non_zero_i8 (pos zero) = record { value = negsuc 127; ok = suc_is_positive 127 }
non_zero_i8 (pos (suc n)) = record { value = pos (suc n); ok = suc_is_positive n }
non_zero_i8 (negsuc n) = record { value = negsuc n; ok = suc_is_positive n }

abbrev pub non_zero_i16 : ℤ → NonZeroI16
non_zero_i16 (pos zero) = record { value = negsuc 32767; ok = suc_is_positive 32767 }
non_zero_i16 (pos (suc n)) = record { value = pos (suc n); ok = suc_is_positive n }
non_zero_i16 (negsuc n) = record { value = negsuc n; ok = suc_is_positive n }

abbrev pub non_zero_i32 : ℤ → NonZeroI32
non_zero_i32 (pos zero) = record { value = negsuc 2147483647; ok = suc_is_positive 2147483647 }
non_zero_i32 (pos (suc n)) = record { value = pos (suc n); ok = suc_is_positive n }
non_zero_i32 (negsuc n) = record { value = negsuc n; ok = suc_is_positive n }

abbrev pub non_zero_i64 : ℤ → NonZeroI64
non_zero_i64 (pos zero) = record { value = negsuc 9223372036854775807; ok = suc_is_positive 9223372036854775807 }
non_zero_i64 (pos (suc n)) = record { value = pos (suc n); ok = suc_is_positive n }
non_zero_i64 (negsuc n) = record { value = negsuc n; ok = suc_is_positive n }

abbrev pub non_zero_u8_form : NativeForm NonZeroU8
non_zero_u8_form = form_without_0 (number 1 fed.u8) (λ n. n) non_zero_u8_get non_zero_u8 1 (to_le_bytes w8) (λ n. n < 2 ^ 8)

abbrev pub non_zero_u16_form : NativeForm NonZeroU16
non_zero_u16_form = form_without_0 (number 2 fed.u16) (λ n. n) non_zero_u16_get non_zero_u16 1 (to_le_bytes w16) (λ n. n < 2 ^ 16)

abbrev pub non_zero_u64_form : NativeForm NonZeroU64
non_zero_u64_form = form_without_0 (number 8 fed.u64) (λ n. n) non_zero_u64_get non_zero_u64 1 (to_le_bytes w64) (λ n. n < 2 ^ 64)

abbrev pub non_zero_i8_form : NativeForm NonZeroI8
non_zero_i8_form = form_without_0 (signed w8 fed.i8) unsigned_abs non_zero_i8_get non_zero_i8 (pos 1) (own_signed w8) (FitsSigned w8)

abbrev pub non_zero_i16_form : NativeForm NonZeroI16
non_zero_i16_form = form_without_0 (signed w16 fed.i16) unsigned_abs non_zero_i16_get non_zero_i16 (pos 1) (own_signed w16) (FitsSigned w16)

abbrev pub non_zero_i32_form : NativeForm NonZeroI32
non_zero_i32_form = form_without_0 (signed w32 fed.i32) unsigned_abs non_zero_i32_get non_zero_i32 (pos 1) (own_signed w32) (FitsSigned w32)

abbrev pub non_zero_i64_form : NativeForm NonZeroI64
non_zero_i64_form = form_without_0 (signed w64 fed.i64) unsigned_abs non_zero_i64_get non_zero_i64 (pos 1) (own_signed w64) (FitsSigned w64)

abbrev pub non_zero_u8_kind : Kind
non_zero_u8_kind = plain_kind non_zero_u8_form.plain

abbrev pub non_zero_u16_kind : Kind
non_zero_u16_kind = plain_kind non_zero_u16_form.plain

abbrev pub non_zero_u64_kind : Kind
non_zero_u64_kind = plain_kind non_zero_u64_form.plain

abbrev pub non_zero_i8_kind : Kind
non_zero_i8_kind = plain_kind non_zero_i8_form.plain

abbrev pub non_zero_i16_kind : Kind
non_zero_i16_kind = plain_kind non_zero_i16_form.plain

abbrev pub non_zero_i32_kind : Kind
non_zero_i32_kind = plain_kind non_zero_i32_form.plain

abbrev pub non_zero_i64_kind : Kind
non_zero_i64_kind = plain_kind non_zero_i64_form.plain
