-- What a value's own bytes tell of what lies elsewhere, and where that doesn't fit 32 bits.
use Rattle.std.specs.Prelude.{ℕ, ◌+◌, ◌≤◌, ◌<◌, ◌⊎◌, List, [], ◌∷◌}
use Rattle.std.specs.Int.{w32, to_le_bytes}
use Rattle.rkyv_btree_portable.specs.Bytes.{Holds}
use Rattle.rkyv_btree_writer.specs.Pointers.{FitsOffset, pointer}
use Rattle.rkyv_btree_writer.specs.Writing.{last_end}
use Rattle.rkyv_btree_writer.specs.declared.fault.ResolveFault.{ResolveFault}
use Rattle.rkyv_btree_writer.specs.declared.fault.ResolveFault.TheVariants.{LengthOverflow, OffsetOverflow}

-- a length, by the position of its bytes and its number; or a pointer, by that position and its target
pub data Field : Type 0 where
  a_length : ℕ → ℕ → Field
  a_pointer : ℕ → ℕ → Field

-- a field that doesn't fit is this fault
abbrev pub IsUnfit : Field → ResolveFault → Type 0
IsUnfit (a_length place len) LengthOverflow = last_end < len
IsUnfit (a_length place len) OffsetOverflow = ⊥
IsUnfit (a_pointer place target) LengthOverflow = ⊥
IsUnfit (a_pointer place target) OffsetOverflow = FitsOffset place target → ⊥

abbrev pub Fits : Field → Type 0
Fits (a_length place len) = len ≤ last_end
Fits (a_pointer place target) = FitsOffset place target

-- the position of a field's four bytes, and these bytes
abbrev pub place_of : Field → ℕ
place_of (a_length place len) = place
place_of (a_pointer place target) = place

abbrev pub bytes_of : Field → List ℕ
bytes_of (a_length place len) = to_le_bytes w32 len
bytes_of (a_pointer place target) = pointer place target

abbrev pub AllFit : List Field → Type 0
AllFit [] = Unit {0}
AllFit (f ∷ fs) = Fits f × AllFit fs

-- the first field that doesn't fit is this fault
abbrev pub FirstUnfit : List Field → ResolveFault → Type 0
FirstUnfit [] fault = ⊥
FirstUnfit (f ∷ fs) fault = IsUnfit f fault ⊎ (Fits f × FirstUnfit fs fault)

-- one of these lengths is past 32 bits
abbrev pub HasLong : List ℕ → Type 0
HasLong [] = ⊥
HasLong (len ∷ lens) = (last_end < len) ⊎ HasLong lens

-- the lengths among fields
abbrev pub lengths_of : List Field → List ℕ
lengths_of [] = []
lengths_of (a_length place len ∷ fs) = len ∷ lengths_of fs
lengths_of (a_pointer place target ∷ fs) = lengths_of fs

-- each field's bytes are among so many from a position on
abbrev pub AllInside : ℕ → ℕ → List Field → Type 0
AllInside at size [] = Unit {0}
AllInside at size (f ∷ fs) = (at ≤ place_of f) × (place_of f + 4 ≤ at + size) × AllInside at size fs

-- a buffer holds each field's bytes
abbrev pub AllHeld : List ℕ → List Field → Type 0
AllHeld b [] = Unit {0}
AllHeld b (f ∷ fs) = Holds b (place_of f) (bytes_of f) × AllHeld b fs
