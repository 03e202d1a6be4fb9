-- Archived numbers, characters, truth values and the empty value.
use Rattle.std.specs.Prelude.{ℕ, ℤ, Bool, true, List, [], nat_eq, nat_lt}
use Rattle.std.specs.Hash as fed
use Rattle.std.specs.Int.{Width, w8, w16, w32, w64, byte_len, cast_signed}
use Rattle.std.specs.Ordering.{nat_cmp, int_eq, int_cmp, bool_cmp}
use Rattle.std.specs.declared.cmp.Ordering.TheVariants.{Equal}
use Rattle.std.proofs.Math.Bool.{beq}
use Rattle.std.proofs.Math.Utf8.{scalar}
use Rattle.rkyv_btree_portable.specs.Bytes.{from_le}
use Rattle.rkyv_btree_portable.specs.Kind.{Kind}
use Rattle.rkyv_btree_portable.specs.Plain.{Plain, plain_kind}

-- no bytes, which are the one value
abbrev pub nothing : Plain
nothing = record {
  Value = Unit {0};
  size = 0;
  align = 1;
  is_value = λ bytes. true;
  value = λ bytes. tt;
  same = λ x y. true;
  order = λ x y. Equal;
  hash_input = λ x. [];
}

-- a little-endian number of so many bytes, aligned to its own size, of which some are values
abbrev pub number_where : (ℕ → Bool) → ℕ → (ℕ → List (List ℕ)) → Plain
number_where is_value size hash_input = record {
  Value = ℕ;
  size = size;
  align = size;
  is_value = λ bytes. is_value (from_le bytes);
  value = from_le;
  same = nat_eq;
  order = nat_cmp;
  hash_input = hash_input;
}

-- any such number
abbrev pub number : ℕ → (ℕ → List (List ℕ)) → Plain
number = number_where (λ n. true)

-- a character: its code, which is at most 10FFFF in hexadecimal and none from D800 to DFFF
abbrev pub character : Plain
character = number_where scalar 4 fed.char

-- a number other than 0
abbrev pub non_zero : Plain
non_zero = number_where (nat_lt 0) 4 fed.u32

-- a little-endian number of this width in two's complement
abbrev pub signed : Width → (ℤ → List (List ℕ)) → Plain
signed width hash_input = record {
  Value = ℤ;
  size = byte_len width;
  align = byte_len width;
  is_value = λ bytes. true;
  value = λ bytes. cast_signed width (from_le bytes);
  same = int_eq;
  order = int_cmp;
  hash_input = hash_input;
}

-- one byte, which is 0 or 1
abbrev pub boolean : Plain
boolean = record {
  Value = Bool;
  size = 1;
  align = 1;
  is_value = λ bytes. nat_lt (from_le bytes) 2;
  value = λ bytes. nat_eq (from_le bytes) 1;
  same = beq;
  order = bool_cmp;
  hash_input = fed.bool;
}

abbrev pub u8_kind : Kind
u8_kind = plain_kind (number 1 fed.u8)

abbrev pub u16_kind : Kind
u16_kind = plain_kind (number 2 fed.u16)

abbrev pub u32_kind : Kind
u32_kind = plain_kind (number 4 fed.u32)

abbrev pub u64_kind : Kind
u64_kind = plain_kind (number 8 fed.u64)

abbrev pub i8_kind : Kind
i8_kind = plain_kind (signed w8 fed.i8)

abbrev pub i16_kind : Kind
i16_kind = plain_kind (signed w16 fed.i16)

abbrev pub i32_kind : Kind
i32_kind = plain_kind (signed w32 fed.i32)

abbrev pub i64_kind : Kind
i64_kind = plain_kind (signed w64 fed.i64)

abbrev pub bool_kind : Kind
bool_kind = plain_kind boolean

abbrev pub unit_kind : Kind
unit_kind = plain_kind nothing

abbrev pub char_kind : Kind
char_kind = plain_kind character

abbrev pub non_zero_kind : Kind
non_zero_kind = plain_kind non_zero
