-- A movie in eight bytes: the year, the stars, a byte of padding, the seconds.
use Rattle.std.specs.Prelude.{◌<◌, ◌^◌, ◌∷◌, ◌++◌, true, refl, slice_index}
use Rattle.std.specs.Int.{to_le_bytes, w16, w32}
use Rattle.std.proofs.Common.{arith}
use Rattle.rkyv_btree_base.specs.Bytes.{bytes_at, from_le}
use Rattle.rkyv_btree_base.specs.Rounding.{four}
use Rattle.rkyv_btree.specs.PlainValues.{PlainLayout, IsPlainLayout}
use Rattle.movies.specs.declared.Movie.{Movie}

abbrev pub movie_layout : PlainLayout Movie
movie_layout = record {
  size = 8;
  align = 4;
  is_value = λ bytes. true;
  value = λ bytes. record {
    year = from_le (bytes_at bytes 0 2);
    stars = slice_index bytes 2;
    seconds = from_le (bytes_at bytes 4 4);
  };
  bytes = λ m. to_le_bytes w16 m.year ++ (m.stars ∷ 0 ∷ to_le_bytes w32 m.seconds);
  IsIn = λ m. (m.year < 2 ^ 16) × (m.seconds < 2 ^ 32);
}

-- the bytes of a movie say that movie
pub movie_lawful : IsPlainLayout movie_layout
movie_lawful = record { alignment = four; whole = refl; small = omega arith; many = λ m. refl; valid = λ m. refl; back = λ m in_range. grind arith }
