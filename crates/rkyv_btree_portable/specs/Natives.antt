-- How native numbers, truth values, characters and the empty value lie in their own bytes.
use Rattle.std.specs.Prelude.{FitsSigned, ℕ, ℤ, ◌*◌, ◌<◌, ◌^◌, Bool, true, false, IsTrue, List, [], ◌∷◌, nat_lt, if◌then◌else◌}
use Rattle.std.specs.Hash as fed
use Rattle.std.specs.Int.{Width, w8, w16, w32, w64, byte_len, to_le_bytes, cast_unsigned}
use Rattle.std.specs.Int.NonZero.{non_zero_u32_get}
use Rattle.std.specs.declared.num.NonZeroU32.{NonZeroU32}
use Rattle.std.proofs.Math.Utf8.{scalar}
use Rattle.rkyv_btree_portable.specs.InPlace.{NativeForm}
use Rattle.rkyv_btree_portable.specs.Scalars.{number, signed, boolean, nothing, character, non_zero}

-- the own bytes of a number in two's complement
abbrev pub own_signed : Width → ℤ → List ℕ
own_signed width n = to_le_bytes width (cast_unsigned width n)

abbrev pub own_bool : Bool → List ℕ
own_bool true = 1 ∷ []
own_bool false = 0 ∷ []

-- the own bytes of a character, those of its code, and of a number other than 0. A law also ranges over numbers that no
-- `char` and no `NonZeroU32` has: they get the bytes of 0 and of 1.
abbrev pub own_char : ℕ → List ℕ
own_char c = to_le_bytes w32 (if scalar c then c else 0)

abbrev pub own_non_zero : NonZeroU32 → List ℕ
own_non_zero n = to_le_bytes w32 (if nat_lt (non_zero_u32_get n) (2 ^ 32) then non_zero_u32_get n else 1)

-- a number without a sign
abbrev pub unsigned_form : Width → (ℕ → List (List ℕ)) → NativeForm ℕ
unsigned_form width hash_input =
    record { plain = number (byte_len width) hash_input; own_bytes = to_le_bytes width; IsIn = λ n. n < 2 ^ (8 * byte_len width); meaning = λ n. n }

-- a number with a sign
abbrev pub signed_form : Width → (ℤ → List (List ℕ)) → NativeForm ℤ
signed_form width hash_input = record { plain = signed width hash_input; own_bytes = own_signed width; IsIn = FitsSigned width; meaning = λ n. n }

abbrev pub u8_form : NativeForm ℕ
u8_form = unsigned_form w8 fed.u8

abbrev pub u16_form : NativeForm ℕ
u16_form = unsigned_form w16 fed.u16

abbrev pub u32_form : NativeForm ℕ
u32_form = unsigned_form w32 fed.u32

abbrev pub u64_form : NativeForm ℕ
u64_form = unsigned_form w64 fed.u64

abbrev pub i8_form : NativeForm ℤ
i8_form = signed_form w8 fed.i8

abbrev pub i16_form : NativeForm ℤ
i16_form = signed_form w16 fed.i16

abbrev pub i32_form : NativeForm ℤ
i32_form = signed_form w32 fed.i32

abbrev pub i64_form : NativeForm ℤ
i64_form = signed_form w64 fed.i64

abbrev pub bool_form : NativeForm Bool
bool_form = record { plain = boolean; own_bytes = own_bool; IsIn = λ b. Unit {0}; meaning = λ b. b }

abbrev pub unit_form : NativeForm (Unit {0})
unit_form = record { plain = nothing; own_bytes = λ u. []; IsIn = λ u. Unit {0}; meaning = λ u. u }

abbrev pub char_form : NativeForm ℕ
char_form = record { plain = character; own_bytes = own_char; IsIn = λ c. IsTrue (scalar c); meaning = λ c. c }

abbrev pub non_zero_form : NativeForm NonZeroU32
non_zero_form = record { plain = non_zero; own_bytes = own_non_zero; IsIn = λ n. non_zero_u32_get n < 2 ^ 32; meaning = non_zero_u32_get }
