-- Byte strings: an offset to their bytes, whatever these are, and their number.
use Rattle.std.specs.Prelude.{◌≡◌, ℕ, ◌+◌, ◌≤◌, List, Option, Some, None, ℤ, pos, negsuc, true, nat_lt, if◌then◌else◌, bytes_eq}
use Rattle.std.specs.Cmp.Lexicographic.{slice_cmp}
use Rattle.std.specs.Hash as fed
use Rattle.std.specs.Ordering.{nat_cmp}
use Rattle.rkyv_btree_portable.specs.Bytes.{bytes_at, place_at}
use Rattle.rkyv_btree_portable.specs.Kind.{Kind, Leaves}
use Rattle.rkyv_btree_portable.specs.Standing.{Lies, if_placed}
use Rattle.rkyv_btree_portable.specs.Text.{IsTextRange, text_len, read_text}

-- the bytes lie in the window, which goes on after them
pub record MeansBytes (buf : List ℕ) (lo hi at left : ℕ) (string : List ℕ) : Type 0 where
  pub lies : Lies buf 8 4 lo hi at left
  pub start : ℕ
  pub range : IsTextRange buf at start left
  pub from : lo ≤ start
  pub bytes : string ≡ bytes_at buf start (text_len buf at)

-- where the window goes on after so many bytes from a place on, if they lie in it
abbrev pub behind_bytes : ℕ → ℕ → ℕ → ℤ → Option ℕ
behind_bytes count lo hi (negsuc n) = None
behind_bytes count lo hi (pos start) =
    if nat_lt start lo then None else
    if nat_lt hi (start + count) then None else Some (start + count)

abbrev pub bytes_leaves : Leaves
bytes_leaves buf lo hi at = if_placed buf 8 4 at (behind_bytes (text_len buf at) lo hi (place_at buf at))

-- byte strings are compared and hashed as slices of bytes are
abbrev pub bytes_kind : Kind
bytes_kind = record {
  Value = List ℕ;
  size = 8;
  align = 4;
  is_fitting = true;
  Means = MeansBytes;
  leaves = bytes_leaves;
  read = read_text;
  same = bytes_eq;
  order = slice_cmp nat_cmp;
  hash_input = fed.slice fed.u8;
}
