-- Files of the program: the archive of a list, after the header of its type or without one.
use Rattle.std.specs.Prelude.{◌≡◌, ◌⊎◌, ℕ, List}
use Rattle.rkyv_btree_portable.specs.Kind.{Kind}
use Rattle.rkyv_btree_portable.specs.Rounding.{round_up}
use Rattle.rkyv_btree_typed.specs.TypeHeader.{HasHeader}
use Rattle.rkyv_btree_typed.specs.TypedWriting.{IsTypedArchiveOf}
use Rattle.rkyv_btree_writer.specs.Archiving.{Archival, Serialises, IsUnserialised}
use Rattle.rkyv_btree_writer.specs.Writing.{Writing, position}
use Rattle.rkyv_btree_writer.specs.declared.fault.Fault.{Fault}
use Rattle.rkyv_btree_writing_laws.specs.Whole.{IsPlaced, IsUnplaced}
use Rattle.btreearc_lines.specs.Headings.{IsUnbegun, begun}
use Rattle.btreearc_lines.specs.declared.heading.Heading.{Heading}
use Rattle.btreearc_lines.specs.declared.heading.Heading.TheVariants.{Typed, Untyped}
use Rattle.btreekv_commands.specs.Lines.{Entry}
use Rattle.btreekv_commands.specs.Opening.{IsArchive, texts, texts_name}

-- bytes begin as a file does: a typed one begins with the header
abbrev pub IsBegun : Heading → List ℕ → Type 0
IsBegun Typed bytes = HasHeader texts_name bytes
IsBegun Untyped bytes = Unit {0}

-- bytes are a file of a list: an archive; and if it is typed, the header comes first, and after it all that the map leads to
abbrev pub IsFile : Heading → List ℕ → List Entry → Type 0
IsFile Typed bytes entries = IsTypedArchiveOf texts_name texts bytes entries
IsFile Untyped bytes entries = IsArchive bytes entries

module _ {X R : Type 0} (T : Archival X R) (kind : Kind) (from : Writing) (x : X) where
  -- bytes are what a writer held, and then what the builder of plain archives writes of a value
  pub record IsWrittenAfter (bytes : List ℕ) : Type 0 where
    pub written : Writing
    pub resolver : R
    pub serialised : Serialises T x from written resolver
    pub at : ℕ
    pub end : Writing
    pub placed : IsPlaced T kind x resolver written at end
    pub whole : bytes ≡ end.contents

  -- why it isn't written there: it isn't serialised, or its own bytes aren't written after what it writes
  abbrev pub IsUnwrittenAfter : {E : Type 0} → Fault E → Type 0
  IsUnwrittenAfter fault =
      ((t : Writing) × IsUnserialised T x from fault t)
      ⊎ ((t : Writing) × (r : R) × Serialises T x from t r × IsUnplaced T kind x r (round_up (position t) kind.align) fault)

module _ {X R : Type 0} (T : Archival X R) (heading : Heading) (x : X) where
  -- bytes are the header, or nothing, and then what the builder of plain archives writes of a value
  abbrev pub IsWhole : List ℕ → Type 0
  IsWhole bytes = IsWrittenAfter T texts (begun texts_name heading) x bytes

  -- why there is no such file: the header isn't written, or the value isn't written after it
  abbrev pub IsUnmade : {E : Type 0} → Fault E → Type 0
  IsUnmade fault = IsUnbegun texts_name heading fault ⊎ IsUnwrittenAfter T texts (begun texts_name heading) x fault
