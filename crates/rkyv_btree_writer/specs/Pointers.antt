-- Relative pointers, as they are written.
use Rattle.std.specs.Prelude.{ℕ, ◌+◌, ◌-◌, ◌%◌, ◌^◌, ◌<◌, ◌≤◌, ◌&&◌, Bool, nat_lt, nat_le, List, [], ◌∷◌}
use Rattle.std.specs.Int.{w32, to_le_bytes}

-- the offset of a target from a position fits 32 signed bits
abbrev pub FitsOffset : ℕ → ℕ → Type 0
FitsOffset at target = (target < at + 2 ^ 31) × (at ≤ target + 2 ^ 31)

-- the test for it
abbrev pub offset_fits : ℕ → ℕ → Bool
offset_fits at target = nat_lt target (at + 2 ^ 31) && nat_le at (target + 2 ^ 31)

-- the pointer at a position to a target: the offset in two's complement
abbrev pub pointer : ℕ → ℕ → List ℕ
pointer at target = to_le_bytes w32 ((target + 2 ^ 32 - at) % 2 ^ 32)

-- the pointer to nothing
abbrev pub no_pointer : List ℕ
no_pointer = 1 ∷ 0 ∷ 0 ∷ 0 ∷ []
