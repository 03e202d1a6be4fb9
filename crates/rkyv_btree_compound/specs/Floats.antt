-- Archived floating-point numbers: their bits as a number, the least byte first. Each pattern is a value, and all patterns of a
-- NaN are one.
use Rattle.std.specs.Prelude.{ℕ, true, IsTrue, List, from_bits, to_bits}
use Rattle.std.specs.Float.{float_key}
use Rattle.std.specs.Float.Ieee.{Float, Format, binary32, binary64, fits}
use Rattle.std.specs.Hash as fed
use Rattle.std.specs.Int.{Width, w32, w64, byte_len, to_le_bytes}
use Rattle.std.specs.Ordering.{is_eq, nan_last_cmp}
use Rattle.rkyv_btree_portable.specs.Bytes.{from_le}
use Rattle.rkyv_btree_portable.specs.InPlace.{NativeForm}
use Rattle.rkyv_btree_portable.specs.Kind.{Kind}
use Rattle.rkyv_btree_portable.specs.Plain.{Plain, plain_kind}

-- a number of a format in so many bytes, aligned to its own size. It is compared, ordered and hashed as an `OrderedFloat`: a NaN
-- is the same as each NaN and greater than all numbers, and -0 is the same as 0
abbrev pub float : Format → Width → (ℕ → List (List ℕ)) → Plain
float format width hash_bits = record {
  Value = Float;
  size = byte_len width;
  align = byte_len width;
  is_value = λ bytes. true;
  value = λ bytes. from_bits format (from_le bytes);
  same = λ x y. is_eq (nan_last_cmp x y);
  order = nan_last_cmp;
  hash_input = λ x. hash_bits (float_key format x);
}

-- the own bytes of a number are its bits. A NaN has those of the quiet NaN with no other bit
abbrev pub float_form : Format → Width → (ℕ → List (List ℕ)) → NativeForm Float
float_form format width hash_bits = record {
  plain = float format width hash_bits;
  own_bytes = λ x. to_le_bytes width (to_bits format x);
  IsIn = λ x. IsTrue (fits format x);
  meaning = λ x. x;
}

abbrev pub f32_form : NativeForm Float
f32_form = float_form binary32 w32 fed.u32

abbrev pub f64_form : NativeForm Float
f64_form = float_form binary64 w64 fed.u64

abbrev pub f32_kind : Kind
f32_kind = plain_kind f32_form.plain

abbrev pub f64_kind : Kind
f64_kind = plain_kind f64_form.plain
