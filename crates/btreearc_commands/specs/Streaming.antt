-- Building from lines that are tested before anything is written.
use Rattle.std.specs.Prelude.{◌≡◌, ℕ, ◌+◌, Bool, true, false, List, [], ◌∷◌, ◌++◌, length, Option, Some, None, IfSome, MatchOption, Result}
use Rattle.std.specs.Ordering.{nat_cmp}
use Rattle.rkyv_btree_writer.specs.declared.fault.Fault.{Fault}
use Rattle.rkyv_btree_writer.specs.declared.fault.Fault.TheVariants.{OutOfOrder}
use Rattle.rkyv_btree_format.specs.Increasing.{Increasing, IsOutOfOrder}
use Rattle.rkyv_btree_archive.specs.declared.try_build.TryFault.{TryFault}
use Rattle.rkyv_btree_archive.specs.declared.try_build.TryFault.TheVariants.{Item, Build}
use Rattle.btreearc_commands.specs.Archive.{HasArchive, IsUnbuilt, IsUnbuiltInOrder}
use Rattle.btreearc_commands.specs.Commands.{Builds, BuildsStrict}
use Rattle.btreearc_lines.specs.declared.heading.Heading.{Heading}
use Rattle.btreearc_lines.specs.Faults.{IsReadFault}
use Rattle.btreearc_lines.specs.Grammar.{BadLine, IsLines}
use Rattle.btreearc_lines.specs.declared.fault.ProgramFault.{ProgramFault}
use Rattle.btreearc_lines.specs.declared.fault.ProgramFault.TheVariants.{Line, NotBuilt}

-- keys increase if they must
abbrev pub IsInOrder : Bool → List (ℕ × ℕ) → Type 0
IsInOrder true entries = Increasing nat_cmp entries
IsInOrder false entries = Unit {0}

-- why entries have no archive, whose keys must increase, or may come in any order
abbrev pub IsUnbuiltSo : {X : Type 0} → Bool → Heading → List (ℕ × ℕ) → Fault X → Type 0
IsUnbuiltSo true heading entries fault = IsUnbuiltInOrder heading entries fault
IsUnbuiltSo false heading entries fault = IsUnbuilt heading entries fault

-- what `build-strict` does, or `build`
abbrev pub BuildsSo : Bool → Heading → Option (List ℕ) → Option (List ℕ) → Option (List ℕ) → Result ℕ ProgramFault → Type 0
BuildsSo true heading input old new result = BuildsStrict heading input old new result
BuildsSo false heading input old new result = Builds heading input old new result

-- this holds of the entries of known bytes, whose lines are so many
abbrev pub OfLines : Option (List ℕ) → ℕ → (List (ℕ × ℕ) → Type 0) → Type 0
OfLines known count Holds = IfSome known (λ bytes. (entries : List (ℕ × ℕ)) → IsLines bytes entries → count ≡ length entries → Holds entries)

-- bytes are so many lines, and their keys increase if they must
pub record AreCounted (is_strict : Bool) (count : ℕ) (bytes : List ℕ) : Type 0 where
  pub entries : List (ℕ × ℕ)
  pub are : IsLines bytes entries
  pub number : count ≡ length entries
  pub order : IsInOrder is_strict entries

-- bytes are such lines, of which there is an archive
pub record IsTested (is_strict : Bool) (heading : Heading) (count : ℕ) (bytes : List ℕ) : Type 0 where
  pub counted : AreCounted is_strict count bytes
  pub fits : HasArchive heading counted.entries

-- why an archive isn't built of an input: its first bad line, or why its entries have no archive; or reading it failed, or there is no memory
abbrev pub FailsToTest : Bool → Heading → Option (List ℕ) → ProgramFault → Type 0
FailsToTest is_strict heading known (Line n) = IfSome known (λ bytes. BadLine bytes n)
FailsToTest is_strict heading known (NotBuilt fault) = IfSome known (λ bytes. (entries : List (ℕ × ℕ)) × IsLines bytes entries × IsUnbuiltSo is_strict heading entries fault)
FailsToTest is_strict heading known fault = IsReadFault fault

-- a call of an iterator that gives so many items, whatever they are
abbrev pub CountsDown : {S X : Type 0} → (S → ℕ) → S → Option X → S → Type 0
CountsDown left s None t = left s ≡ 0
CountsDown left s (Some x) t = left s ≡ left t + 1

-- why so many entries have no archive
abbrev pub IsUnfit : Heading → ℕ → ProgramFault → Type 0
IsUnfit heading count (NotBuilt fault) = (entries : List (ℕ × ℕ)) → count ≡ length entries → IsUnbuilt heading entries fault
IsUnfit heading count _ = ⊥

-- an error of building an archive of entries from a reader: why they have none, or reading has failed
abbrev pub IsTried : {X : Type 0} → Heading → List (ℕ × ℕ) → TryFault X ProgramFault → Type 0
IsTried heading entries (Item fault) = IsReadFault fault
IsTried heading entries (Build fault) = IsUnbuilt heading entries fault

-- the last key is that of the last of these entries
abbrev pub IsLastKey : Option ℕ → List (ℕ × ℕ) → Type 0
IsLastKey last entries = MatchOption last (entries ≡ []) (λ key. (front : List (ℕ × ℕ)) × (e : ℕ × ℕ) × (entries ≡ front ++ e ∷ []) × (key ≡ e.0))

-- the first of these entries that is out of order, if one is, and the last key
abbrev pub KnowsOrder : Option ℕ → Option ℕ → List (ℕ × ℕ) → Type 0
KnowsOrder last None entries = Increasing nat_cmp entries × IsLastKey last entries
KnowsOrder last (Some index) entries = IsOutOfOrder nat_cmp entries index

-- an error names the first entry out of order
abbrev pub NamesFirst : Option ℕ → ProgramFault → Type 0
NamesFirst None fault = ⊥
NamesFirst (Some index) fault = fault ≡ NotBuilt (OutOfOrder index)
