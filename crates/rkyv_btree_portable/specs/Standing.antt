-- Where a value stands in a buffer, and what two buffers share.
use Rattle.std.specs.Prelude.{◌≡◌, ℕ, ◌+◌, ◌%◌, ◌≤◌, ◌<◌, List, length, slice_index, Option, None, nat_eq, nat_lt, if◌then◌else◌}

-- the position is a multiple of the alignment
abbrev pub IsAligned : ℕ → ℕ → Type 0
IsAligned align at = at % align ≡ 0

-- a value's own `size` bytes at `at` lie in a buffer of at most 4294967295 bytes, aligned, and its outlying bytes in
-- `lo..left` of the window `lo..hi`
pub record Lies (buf : List ℕ) (size align lo hi at left : ℕ) : Type 0 where
  pub short : length buf ≤ 4294967295
  pub inside : at + size ≤ length buf
  pub aligned : IsAligned align at
  pub forward : lo ≤ left
  pub kept : left ≤ hi
  pub before : hi ≤ at

-- a decision for own bytes that lie in a buffer of at most 4294967295 bytes, aligned, and none for others
abbrev pub if_placed : List ℕ → ℕ → ℕ → ℕ → Option ℕ → Option ℕ
if_placed buf size align at left =
    if nat_lt 4294967295 (length buf) then None else
    if nat_lt (length buf) (at + size) then None else
    if nat_eq (at % align) 0 then left else None

-- the second buffer holds the bytes of the first from one position up to another
pub record SameBytes (buf other : List ℕ) (from to : ℕ) : Type 0 where
  pub covers : to ≤ length other
  pub same : (k : ℕ) → from ≤ k → k < to → slice_index buf k ≡ slice_index other k
