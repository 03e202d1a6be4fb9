-- Alignments, and rounding up to one.
use Rattle.std.specs.Prelude.{ℕ, ◌+◌, ◌-◌, ◌*◌, ◌/◌}

-- an alignment is 1, 2, 4, 8 or 16
pub data IsAlignment : ℕ → Type 0 where
  one : IsAlignment 1
  two : IsAlignment 2
  four : IsAlignment 4
  eight : IsAlignment 8
  sixteen : IsAlignment 16

-- the least multiple of `align` that is at least `n`
unfoldable pub round_up : ℕ → ℕ → ℕ
round_up n align = (n + (align - 1)) / align * align
