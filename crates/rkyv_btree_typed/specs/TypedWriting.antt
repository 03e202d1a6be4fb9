-- Writing typed files.
use Rattle.std.specs.Prelude.{◌≡◌, ℕ, ◌+◌, ◌≤◌, ◌<◌, ◌^◌, ◌⊎◌, List, length}
use Rattle.rkyv_btree_format.specs.OwnBytes.{IsArchiveOf, own_at}
use Rattle.rkyv_btree_portable.specs.Kind.{Kind}
use Rattle.rkyv_btree_portable.specs.Rounding.{round_up}
use Rattle.rkyv_btree_typed.specs.TypeHeader.{HasHeader, header}
use Rattle.rkyv_btree_writer.specs.Archiving.{Archival, Serialises, IsUnserialised}
use Rattle.rkyv_btree_writer.specs.Writing.{Writing, position, Failed, last_end}
use Rattle.rkyv_btree_writer.specs.declared.fault.Fault.{Fault}
use Rattle.rkyv_btree_writer.specs.declared.fault.Fault.TheVariants.{Length, LengthOverflow, PositionOverflow, OffsetOverflow, Writer, Memory, Entry, OutOfOrder}
use Rattle.rkyv_btree_writing_laws.specs.Whole.{IsPlaced, IsUnplaced, fresh}

-- the bytes begin with the header of a name, all of them are an archive of a value, and all that this leads to comes after the header
pub record IsTypedArchiveOf (name : List ℕ) (kind : Kind) (bytes : List ℕ) (v : kind.Value) : Type 0 where
  pub named : HasHeader name bytes
  pub archive : IsArchiveOf kind bytes v
  pub apart : (left : ℕ) × kind.Means bytes (length (header name)) (own_at kind bytes) (own_at kind bytes) left v

-- why the header of a name isn't written at s, and what the writer then is
abbrev pub IsHeaderUnwritten : {E : Type 0} → List ℕ → Writing → Fault E → Writing → Type 0
IsHeaderUnwritten name s LengthOverflow t = (t ≡ s) × (2 ^ 32 ≤ length name)
IsHeaderUnwritten name s PositionOverflow t = (t ≡ s) × (last_end < position s + length (header name))
IsHeaderUnwritten name s (Writer error) t = Failed s (header name) t
IsHeaderUnwritten name s (Memory error) t = t ≡ s
IsHeaderUnwritten name s (Length mismatch) t = ⊥
IsHeaderUnwritten name s OffsetOverflow t = ⊥
IsHeaderUnwritten name s (Entry fault) t = ⊥
IsHeaderUnwritten name s (OutOfOrder index) t = ⊥

-- a writer in memory that holds the header of a name
abbrev pub headed : List ℕ → Writing
headed name = record { base = 0; contents = header name; failures = 0 }

module _ {X R : Type 0} (T : Archival X R) (kind : Kind) (name : List ℕ) where
  -- the bytes are the header of a name and what the builder of plain archives writes after it
  pub record IsBuiltAfter (x : X) (bytes : List ℕ) : Type 0 where
    pub written : Writing
    pub resolver : R
    pub serialised : Serialises T x (headed name) written resolver
    pub at : ℕ
    pub end : Writing
    pub placed : IsPlaced T kind x resolver written at end
    pub whole : bytes ≡ end.contents

  -- why a value has no typed archive: its header isn't written, it isn't serialised after that, or its own bytes aren't written after what it writes
  abbrev pub IsUntypable : {E : Type 0} → X → Fault E → Type 0
  IsUntypable x fault =
      ((t : Writing) × IsHeaderUnwritten name fresh fault t)
      ⊎ ((t : Writing) × IsUnserialised T x (headed name) fault t)
      ⊎ ((t : Writing) × (r : R) × Serialises T x (headed name) t r × IsUnplaced T kind x r (round_up (position t) kind.align) fault)
