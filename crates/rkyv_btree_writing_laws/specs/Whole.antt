-- Writing a whole archive: the bytes of one value from position 0 on, its own at their end.
use Rattle.std.specs.Prelude.{◌≡◌, ℕ, ◌+◌, ◌≤◌, ◌<◌, ◌⊎◌, true, List, [], ◌∷◌, ◌++◌, length}
use Rattle.rkyv_btree_portable.specs.Kind.{Kind}
use Rattle.rkyv_btree_portable.specs.Rounding.{round_up}
use Rattle.rkyv_btree_writer.specs.Archiving.{Archival, IsUnresolved, Serialises, IsUnserialised}
use Rattle.rkyv_btree_writer.specs.Padding.{padding}
use Rattle.rkyv_btree_writer.specs.Writing.{Writing, position, Failed, Wrote, Stopped, last_end}
use Rattle.rkyv_btree_writer.specs.declared.fault.Fault.{Fault}
use Rattle.rkyv_btree_writer.specs.declared.fault.Fault.TheVariants.{Length, LengthOverflow, PositionOverflow, OffsetOverflow, Writer, Memory, Entry, OutOfOrder}
use Rattle.rkyv_btree_writer.specs.declared.fault.ResolveFault.TheVariants as resolving

-- a writer in memory that holds nothing
abbrev pub fresh : Writing
fresh = record { base = 0; contents = []; failures = 0 }

module _ {X R : Type 0} (T : Archival X R) (kind : Kind) where
  -- the own bytes of a serialised value were written at the next multiple of its alignment
  pub record IsPlaced (x : X) (r : R) (s : Writing) (at : ℕ) (t : Writing) : Type 0 where
    pub place : at ≡ round_up (position s) kind.align
    pub own_bytes : List ℕ
    pub resolved : T.Resolves x r at own_bytes
    pub wrote : Wrote s (padding kind.align (position s) ++ record { bytes = own_bytes; reaches = true } ∷ []) t
    pub end : position t ≤ last_end

  -- why they aren't at that place
  abbrev pub IsUnplaced : {E : Type 0} → X → R → ℕ → Fault E → Type 0
  IsUnplaced x r at PositionOverflow = last_end < at + kind.size
  IsUnplaced x r at LengthOverflow = IsUnresolved T x r at resolving.LengthOverflow
  IsUnplaced x r at OffsetOverflow = IsUnresolved T x r at resolving.OffsetOverflow
  IsUnplaced x r at (Writer error) = Unit {0}
  IsUnplaced x r at (Memory error) = Unit {0}
  IsUnplaced x r at (Length mismatch) = ⊥
  IsUnplaced x r at (Entry fault) = ⊥
  IsUnplaced x r at (OutOfOrder index) = ⊥

  -- the own bytes aren't written at s: the writer has failed at them, or is as it was
  abbrev pub IsUnwritten : {E : Type 0} → X → R → Writing → Fault E → Writing → Type 0
  IsUnwritten x r s (Writer error) t = (own : List ℕ) × T.Resolves x r (position s) own × Failed s own t
  IsUnwritten x r s fault t = t ≡ s

  -- what a writer at s holds then: some of the zeros before that place; or all of them, and the own bytes aren't written there
  abbrev pub LeftUnplaced : {E : Type 0} → X → R → Writing → Fault E → Writing → Type 0
  LeftUnplaced x r s fault t = Stopped s (padding kind.align (position s)) fault t ⊎ ((mid : Writing) × Wrote s (padding kind.align (position s)) mid × IsUnwritten x r mid fault t)

  -- why a value has no archive: it isn't serialised, or its own bytes aren't written after what it writes
  abbrev pub IsUnarchived : {E : Type 0} → X → Fault E → Type 0
  IsUnarchived x fault =
      ((t : Writing) × IsUnserialised T x fresh fault t)
      ⊎ ((t : Writing) × (r : R) × Serialises T x fresh t r × IsUnplaced x r (round_up (position t) kind.align) fault)
