-- Entries that are read line by line from a reader.
use Rattle.std.specs.Prelude.{◌≡◌, ℕ, ◌+◌, List, ◌∷◌, Option, Some, None, IfSome, Result, Ok, Err}
use Rattle.btreearc_lines.specs.Faults.{IsReadFault}
use Rattle.btreearc_lines.specs.Grammar.{lines}
use Rattle.btreearc_lines.specs.declared.fault.ProgramFault.{ProgramFault}
use Rattle.btreearc_lines.specs.declared.fault.ProgramFault.TheVariants.{Line}
use Rattle.btreekv_commands.specs.Lines.{Entry, IsEntry, IsBadLine}

-- an error of counting the lines of a reader: the first bad line, or reading has failed
abbrev pub IsCountFault : Option (List ℕ) → ProgramFault → Type 0
IsCountFault known (Line n) = IfSome known (λ bytes. IsBadLine bytes n)
IsCountFault known fault = IsReadFault fault

-- of known bytes the first line was taken, which is this entry
abbrev pub TakesEntry : Option (List ℕ) → Option (List ℕ) → Entry → Type 0
TakesEntry None new x = Unit {0}
TakesEntry (Some bytes) None x = ⊥
TakesEntry (Some bytes) (Some rest) x = (line : List ℕ) × (lines bytes ≡ line ∷ lines rest) × IsEntry line x

-- a call of an iterator over so many lines of a reader: it gives the entry of the next, or reading has failed; or all were given
abbrev pub GivesEntry : {S : Type 0} → (S → ℕ) → (S → Option (List ℕ)) → S → Option (Result Entry ProgramFault) → S → Type 0
GivesEntry left known s None t = left s ≡ 0
GivesEntry left known s (Some (Ok x)) t = (left s ≡ left t + 1) × TakesEntry (known s) (known t) x
GivesEntry left known s (Some (Err fault)) t = IsReadFault fault
