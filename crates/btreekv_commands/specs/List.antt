-- Archives that are listed entry by entry.
use Rattle.std.specs.Prelude.{◌≡◌, ℕ, List, Option, map}
use Rattle.std.specs.Io.KnownBytes.{Appends}
use Rattle.std.specs.Iterator.{Drains}
use Rattle.btreearc_lines.specs.Headings.{IsMisheaded}
use Rattle.btreearc_lines.specs.declared.fault.ProgramFault.{ProgramFault}
use Rattle.btreearc_lines.specs.declared.fault.ProgramFault.TheVariants.{Refused, Misheaded, OutputFailed}
use Rattle.btreekv_commands.specs.Lines.{Entry}
use Rattle.btreekv_commands.specs.Opening.{IsInput, RefusesArchive, texts_name}

-- the bytes that a writer holds have grown by what is written of all entries that an iterator's items show
abbrev pub StreamsEntries : {S A : Type 0} → (List Entry → List ℕ) → (S → Option A → S → Type 0) → (A → Entry) → S → Option (List ℕ) → Option (List ℕ) → Type 0
StreamsEntries {S} {A} written steps shows start old new = (items : List A) × Drains steps start items × Appends old new (written (map shows items))

-- they have grown by what is written of the entries of an archive
abbrev pub Lists : (List Entry → List ℕ) → List ℕ → Option (List ℕ) → Option (List ℕ) → Type 0
Lists written input old new = (entries : List Entry) × IsInput input entries × Appends old new (written entries)

-- another header comes first, or the bytes are no archive: then nothing was written. Or writing failed
abbrev pub FailsToList : List ℕ → Type 0 → ProgramFault → Type 0
FailsToList input Unwritten (Refused refusal) = RefusesArchive input refusal × Unwritten
FailsToList input Unwritten (Misheaded fault) = IsMisheaded texts_name input fault × Unwritten
FailsToList input Unwritten OutputFailed = Unit {0}
FailsToList input Unwritten _ = ⊥
