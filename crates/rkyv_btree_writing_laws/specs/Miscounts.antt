-- What building returns for claims of their own: one past 32 bits, and one of nothing.
use Rattle.std.specs.Prelude.{◌≡◌, ℕ, ◌<◌, Result, IfErr, IsErrOf}
use Rattle.rkyv_btree_writer.specs.Writing.{Writing, last_end}
use Rattle.rkyv_btree_writer.specs.declared.fault.Fault.{Fault}
use Rattle.rkyv_btree_writer.specs.declared.fault.Fault.TheVariants.{Length, LengthOverflow}

-- a fault tells a wrong count
abbrev pub IsMiscount : {X : Type 0} → Fault X → Type 0
IsMiscount (Length m) = Unit {0}
IsMiscount _ = ⊥

-- what building returns for a claim, and from which state to which it leads
pub record IsLimited {X : Type 0} (claim : ℕ) (from to : Writing) (result : Result ℕ (Fault X)) : Type 0 where
  -- a length past 32 bits is always the error `LengthOverflow`, and nothing is written
  pub past : last_end < claim → IsErrOf result LengthOverflow × (to ≡ from)
  -- with a declared length of 0 the only error is a wrong count, and nothing is written
  pub none : claim ≡ 0 → IfErr result IsMiscount × (to ≡ from)
