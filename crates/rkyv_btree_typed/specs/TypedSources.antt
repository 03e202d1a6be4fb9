-- Opening sources of typed files.
use Rattle.std.specs.Prelude.{◌≡◌, ℕ, ◌<◌, List, length, min, take}
use Rattle.rkyv_btree_portable.specs.declared.refusal.Refusal.TheVariants.{TooLong}
use Rattle.rkyv_btree_source.specs.declared.fault.SourceFault.TheVariants.{NoRoom, OverBudget, Read, Refused}
use Rattle.rkyv_btree_typed.specs.TypedOpening.{IsMistyped}
use Rattle.rkyv_btree_typed.specs.declared.open_source.TypedSourceFault.{TypedSourceFault}
use Rattle.rkyv_btree_typed.specs.declared.open_source.TypedSourceFault.TheVariants.{Mistyped, Source}

module _ {M E : Type 0} (name b : List ℕ) (room budget : ℕ) where
  -- why the bytes b aren't opened: the first of them, as many as there is room for, have no header of this name; or positions of 32 bits
  -- don't reach all bytes; or the first ones are more than the budget. A failed read has its own cause
  abbrev pub IsSourceRefused : TypedSourceFault M E → Type 0
  IsSourceRefused (Mistyped refusal) = IsMistyped name (take room b) refusal
  IsSourceRefused (Source (Refused refusal)) = (refusal ≡ TooLong) × (4294967295 < length b)
  IsSourceRefused (Source (Read error)) = Unit {0}
  IsSourceRefused (Source (NoRoom needed)) = ⊥
  IsSourceRefused (Source OverBudget) = budget < min (length b) room

-- P holds of the source's own error
abbrev pub IfSourceRead : {M E : Type 0} → (E → Type 0) → TypedSourceFault M E → Type 0
IfSourceRead P (Source (Read error)) = P error
IfSourceRead P fault = Unit {0}
