-- A type whose values are codes: 0 is made, and another code refuses itself by it.
use Rattle.std.specs.Prelude.{ℕ, zero, suc, Result, Ok, Err}
use Rattle.rkyv_btree_base.specs.EntryFault.{EntryFault}

abbrev pub of_code : ℕ → Result ℕ EntryFault
of_code zero = Ok 0
of_code (suc n) = Err (record { code = suc n })
