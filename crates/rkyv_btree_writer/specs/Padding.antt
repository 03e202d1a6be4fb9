-- Zeros in writes, up to an alignment.
use Rattle.std.specs.Prelude.{ℕ, ◌-◌, nat_eq, true, if◌then◌else◌, List, [], ◌∷◌}
use Rattle.rkyv_btree_portable.specs.Bytes.{zeros}
use Rattle.rkyv_btree_portable.specs.Rounding.{round_up}
use Rattle.rkyv_btree_writer.specs.Writing.{Write}

-- a write of zeros
abbrev pub zeros_write : ℕ → Write
zeros_write count = record { bytes = zeros count; reaches = true }

-- zeros from a position up to a multiple of an alignment, in one write, if there have to be any
abbrev pub padding : ℕ → ℕ → List Write
padding align at = if nat_eq (round_up at align) at then [] else zeros_write (round_up at align - at) ∷ []
