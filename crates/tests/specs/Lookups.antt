-- What a lookup of a number says of a list of entries.
use Rattle.std.specs.Prelude.{◌≡◌, ◌↔◌, ℕ, List, Option, Some, map}
use Rattle.std.specs.List.{Contains}
use Rattle.std.specs.List.Sorted.{IsStrictlySortedBy}
use Rattle.std.specs.Ordering.{nat_cmp}

-- where keys increase, what is found is the value of the key's entry, if there is one
abbrev pub IsValueOf : List (ℕ × ℕ) → ℕ → Option ℕ → Type 0
IsValueOf entries key found =
    IsStrictlySortedBy nat_cmp (map (λ e. e.0) entries) → (value : ℕ) → (found ≡ Some value) ↔ Contains entries (key, value)
