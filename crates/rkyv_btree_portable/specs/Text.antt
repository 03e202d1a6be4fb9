-- Text: an offset to its bytes, which are UTF-8, and their number.
use Rattle.std.specs.Prelude.{◌≡◌, ℕ, ◌+◌, ◌≤◌, List, Option, Some, None, ℤ, pos, negsuc, true, nat_lt, if◌then◌else◌, IsUtf8, bytes_eq}
use Rattle.std.specs.Int.RustNames.{unsigned_abs}
use Rattle.std.specs.Ordering.{nat_cmp}
use Rattle.std.specs.Cmp.Lexicographic.{slice_cmp}
use Rattle.std.specs.Hash as fed
use Rattle.std.specs.Str.{is_utf8}
use Rattle.rkyv_btree_portable.specs.Bytes.{bytes_at, number_at, place_at}
use Rattle.rkyv_btree_portable.specs.Kind.{Kind, Leaves}
use Rattle.rkyv_btree_portable.specs.Standing.{Lies, if_placed}

-- the number of the bytes of the text at a position
abbrev pub text_len : List ℕ → ℕ → ℕ
text_len buf at = number_at buf (at + 4) 4

-- the bytes of the text at a position stand from where its offset leads up to an end
pub record IsTextRange (buf : List ℕ) (at start end : ℕ) : Type 0 where
  pub leads : place_at buf at ≡ pos start
  pub ends : end ≡ start + text_len buf at

-- they lie in the window, which goes on after them, and are UTF-8
pub record MeansText (buf : List ℕ) (lo hi at left : ℕ) (text : List ℕ) : Type 0 where
  pub lies : Lies buf 8 4 lo hi at left
  pub start : ℕ
  pub range : IsTextRange buf at start left
  pub from : lo ≤ start
  pub bytes : text ≡ bytes_at buf start (text_len buf at)
  pub utf8 : IsUtf8 text

-- where the window goes on after so many bytes from a place on, if they lie in it and are UTF-8
abbrev pub behind_text : List ℕ → ℕ → ℕ → ℕ → ℤ → Option ℕ
behind_text buf count lo hi (negsuc n) = None
behind_text buf count lo hi (pos start) =
    if nat_lt start lo then None else
    if nat_lt hi (start + count) then None else
    if is_utf8 (bytes_at buf start count) then Some (start + count) else None

abbrev pub text_leaves : Leaves
text_leaves buf lo hi at = if_placed buf 8 4 at (behind_text buf (text_len buf at) lo hi (place_at buf at))

abbrev pub read_text : List ℕ → ℕ → List ℕ
read_text buf at = bytes_at buf (unsigned_abs (place_at buf at)) (text_len buf at)

-- text is compared and hashed as `str` is
abbrev pub text_kind : Kind
text_kind = record {
  Value = List ℕ;
  size = 8;
  align = 4;
  is_fitting = true;
  Means = MeansText;
  leaves = text_leaves;
  read = read_text;
  same = bytes_eq;
  order = slice_cmp nat_cmp;
  hash_input = fed.str;
}
