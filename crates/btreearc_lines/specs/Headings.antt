-- What a file begins with: the header of its type, or none.
use Rattle.std.specs.Prelude.{◌≡◌, ◌≢◌, ℕ, ◌<◌, ◌^◌, List, [], IsUtf8, length, take}
use Rattle.rkyv_btree_typed.specs.TypeHeader.{HasHeader, HasOtherVersion, IsUnheaded, header}
use Rattle.rkyv_btree_typed.specs.TypedWriting.{IsHeaderUnwritten}
use Rattle.rkyv_btree_typed.specs.declared.header.HeaderFault.TheVariants.{NoHeader}
use Rattle.rkyv_btree_writer.specs.Writing.{Writing}
use Rattle.rkyv_btree_writer.specs.declared.fault.Fault.{Fault}
use Rattle.rkyv_btree_writing_laws.specs.Whole.{fresh}
use Rattle.btreearc_lines.specs.declared.heading.Heading.{Heading}
use Rattle.btreearc_lines.specs.declared.heading.Heading.TheVariants.{Typed, Untyped}
use Rattle.btreearc_lines.specs.declared.heading.HeadingFault.{HeadingFault}
use Rattle.btreearc_lines.specs.declared.heading.HeadingFault.TheVariants.{OtherVersion, OtherType}

-- what comes before the tree, in a file whose type has this name
abbrev pub prefix : List ℕ → Heading → List ℕ
prefix name Typed = header name
prefix name Untyped = []

-- a writer in memory that holds it
abbrev pub begun : List ℕ → Heading → Writing
begun name heading = record { base = 0; contents = prefix name heading; failures = 0 }

-- why it isn't written
abbrev pub IsUnbegun : {E : Type 0} → List ℕ → Heading → Fault E → Type 0
IsUnbegun name Typed fault = (t : Writing) × IsHeaderUnwritten name fresh fault t
IsUnbegun name Untyped fault = ⊥

-- bytes begin with the header of this name, or with no header
abbrev pub IsHeaded : List ℕ → List ℕ → Heading → Type 0
IsHeaded name bytes Typed = HasHeader name bytes
IsHeaded name bytes Untyped = IsUnheaded bytes NoHeader

-- they begin with a header of another version, or of another name
abbrev pub HasOther : List ℕ → List ℕ → HeadingFault → Type 0
HasOther name bytes (OtherVersion version) = HasOtherVersion bytes version
HasOther name bytes (OtherType found) = (stated : List ℕ) × HasHeader stated bytes × (stated ≢ name) × (found ≡ take 128 stated)

-- why they aren't those of a file whose type has this name
pub record IsMisheaded (name bytes : List ℕ) (fault : HeadingFault) : Type 0 where
  pub other : HasOther name bytes fault
  pub none : (heading : Heading) → ¬ IsHeaded name bytes heading

-- a name that a header can have, if one is written
abbrev pub IsNamed : List ℕ → Heading → Type 0
IsNamed name Typed = IsUtf8 name × (length name < 2 ^ 32)
IsNamed name Untyped = Unit {0}
