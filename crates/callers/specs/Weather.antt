-- A `Weather` in 16 bytes. Made of src/weather.rt by tools/archived.py.
use Rattle.std.specs.Prelude.{FitsSigned, ◌≡◌, ◌<◌, ◌^◌, ◌∷◌, ◌++◌, [], Bool, true, false, IsTrue, ◌&&◌, nat_eq, nat_lt, slice_index}
use Rattle.std.specs.Int.{to_le_bytes, from_bool, cast_signed, cast_unsigned, w16, w64}
use Rattle.std.proofs.Common.{refl, arith}
use Rattle.std.proofs.lemmas.Bool.{and_from}
use Rattle.rkyv_btree_base.specs.Bytes.{bytes_at, from_le}
use Rattle.rkyv_btree_base.specs.Rounding.{eight}
use Rattle.rkyv_btree_base.specs.laws.Natives.{u64_faithful, i16_faithful}
use Rattle.rkyv_btree.specs.PlainValues.{PlainLayout, IsPlainLayout}
use Rattle.callers.specs.declared.weather.Weather.{Weather}

-- which bytes are a `Weather`, and which one: `seconds` at 0, `celsius` at 8, `raining` at 10, `windy` at 11. Other
-- bytes are padding, which is written as 0.
abbrev pub weather_layout : PlainLayout Weather
weather_layout = record {
  size = 16;
  align = 8;
  is_value = λ bytes. nat_lt (slice_index bytes 10) 2 && nat_lt (slice_index bytes 11) 2;
  value = λ bytes. record {
    seconds = from_le (bytes_at bytes 0 8);
    celsius = cast_signed w16 (from_le (bytes_at bytes 8 2));
    raining = nat_eq (slice_index bytes 10) 1;
    windy = nat_eq (slice_index bytes 11) 1;
  };
  bytes = λ x. to_le_bytes w64 x.seconds
      ++ to_le_bytes w16 (cast_unsigned w16 x.celsius)
      ++ (from_bool x.raining ∷ from_bool x.windy ∷ 0 ∷ 0 ∷ 0 ∷ 0 ∷ []);
  IsIn = λ x. (x.seconds < 2 ^ 64) × FitsSigned w16 x.celsius;
}

-- the byte of a truth value is one, and is read as it
valid_bool : (b : Bool) → IsTrue (nat_lt (from_bool b) 2)
valid_bool true = refl
valid_bool false = refl

back_bool : (b : Bool) → nat_eq (from_bool b) 1 ≡ b
back_bool true = refl
back_bool false = refl

-- the bytes of a `Weather` are so many, are a value, and are that one
pub weather_lawful : IsPlainLayout weather_layout
weather_lawful = record {
  alignment = eight;
  whole = refl;
  small = omega arith;
  many = λ x. refl;
  valid = λ x. and_from _ _ (valid_bool x.raining) (valid_bool x.windy);
  back = λ x is_in. λ i. record {
    seconds = u64_faithful.means x.seconds is_in.0 i;
    celsius = i16_faithful.means x.celsius is_in.1 i;
    raining = back_bool x.raining i;
    windy = back_bool x.windy i;
  };
}
