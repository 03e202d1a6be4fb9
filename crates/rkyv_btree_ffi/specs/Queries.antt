-- What comparing a key that C looks for with a key of a map gives. A query is before every key of another type.
use Rattle.std.specs.Prelude.{ℕ, ℤ, List}
use Rattle.std.specs.Int.{w64, cast_signed}
use Rattle.std.specs.Ordering.{nat_cmp, int_cmp}
use Rattle.std.specs.Cmp.Lexicographic.{slice_cmp}
use Rattle.std.specs.declared.cmp.Ordering.{Ordering}
use Rattle.std.specs.declared.cmp.Ordering.TheVariants.{Less}
use Rattle.rkyv_btree_ffi.specs.declared.query.Query.{Query}
use Rattle.rkyv_btree_ffi.specs.declared.query.Query.TheVariants.{Number, Text}

abbrev pub number_comparison : Query → ℕ → Ordering
number_comparison (Number n) key = nat_cmp n key
number_comparison (Text text) key = Less

-- a number in two's complement
abbrev pub signed_comparison : Query → ℤ → Ordering
signed_comparison (Number n) key = int_cmp (cast_signed w64 n) key
signed_comparison (Text text) key = Less

abbrev pub text_comparison : Query → List ℕ → Ordering
text_comparison (Number n) key = Less
text_comparison (Text text) key = slice_cmp nat_cmp text.now key
