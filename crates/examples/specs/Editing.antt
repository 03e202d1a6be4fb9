-- Maps of numbers whose values are edited.
use Rattle.std.specs.Prelude.{◌≡◌, ◌≢◌, ℕ, ◌+◌, ◌%◌, ◌^◌, List, ◌++◌, Bool, true, false, ◌&&◌, Some, slice_get, nat_le, map, filter}
use Rattle.std.specs.Ordering.{nat_cmp}
use Rattle.rkyv_btree_base.specs.Scalars.{u32_kind}
use Rattle.rkyv_btree.specs.Map.{IsMap}
use Rattle.rkyv_btree.specs.Put.{put_value}
use Rattle.rkyv_btree.specs.Search.{OrderedBy}

-- in the window of all that stands before it, the bytes at a position are a map of these entries
abbrev pub IsNumbers : List ℕ → ℕ → List (ℕ × ℕ) → Type 0
IsNumbers b pos m = IsMap u32_kind u32_kind 5 b pos m

-- an entry of the key has the value, if one was found, and else no byte is another; and where keys are in order, one is
-- found if there is one
abbrev pub Changed : List ℕ → List ℕ → ℕ → List (ℕ × ℕ) → ℕ → ℕ → Bool → Type 0
Changed b c pos m key value true = (i old : ℕ) × (slice_get m i ≡ Some (key, old)) × IsNumbers c pos (put_value m i value)
Changed b c pos m key value false = (c ≡ b) × (OrderedBy (λ e. nat_cmp key e.0) m → (i old : ℕ) → slice_get m i ≢ Some (key, old))

-- the entry with 10 more
abbrev pub plus_ten : ℕ × ℕ → ℕ × ℕ
plus_ten e = (e.0, (e.1 + 10) % 2 ^ 32)

-- an entry of the key has 10 more, if one was found, and else no byte is another
abbrev pub AddsTo : List ℕ → List ℕ → ℕ → List (ℕ × ℕ) → ℕ → Bool → Type 0
AddsTo b c pos m key true = (i old : ℕ) × (slice_get m i ≡ Some (key, old)) × IsNumbers c pos (put_value m i ((old + 10) % 2 ^ 32))
AddsTo b c pos m key false = c ≡ b

-- some entries that stand one after the other have 10 more: where keys are in order, those between the bounds
pub record AddsWithin (low high : ℕ) (m n : List (ℕ × ℕ)) : Type 0 where
  pub before : List (ℕ × ℕ)
  pub within : List (ℕ × ℕ)
  pub behind : List (ℕ × ℕ)
  pub all : m ≡ before ++ (within ++ behind)
  pub added : n ≡ before ++ (map plus_ten within ++ behind)
  pub are : OrderedBy (λ e. nat_cmp low e.0) m → OrderedBy (λ e. nat_cmp high e.0) m → within ≡ filter (λ e. nat_le low e.0 && nat_le e.0 high) m
