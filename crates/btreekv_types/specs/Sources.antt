-- Entries of texts as they are read.
use Rattle.std.specs.Prelude.{◌≡◌, ℕ, List}
use Rattle.btreekv_commands.specs.CsvRecords.{AreTableEntries, IsBadRow}
use Rattle.btreekv_commands.specs.JsonObjects.{IsJsonObject}
use Rattle.btreekv_commands.specs.Lines.{AreLines, Entry, IsBadLine}
use Rattle.btreekv_commands.specs.Records.{AreRecords, IsBadRecord}
use Rattle.btreearc_lines.specs.declared.fault.ProgramFault.{ProgramFault}
use Rattle.btreearc_lines.specs.declared.fault.ProgramFault.TheVariants as fault
use Rattle.btreekv_types.specs.declared.source.Source.{Source}
use Rattle.btreekv_types.specs.declared.source.Source.TheVariants.{Lines, Records, Table, Object}

-- the entries of a text
abbrev pub AreTexts : Source → List ℕ → List Entry → Type 0
AreTexts Lines text entries = AreLines text entries
AreTexts (Records form) text entries = AreRecords form text entries
AreTexts (Table table) text entries = AreTableEntries table text entries
AreTexts Object text entries = IsJsonObject text entries

-- line or record n, counted from 1, is the first that is no entry; or the text is no JSON object of texts
abbrev pub IsBad : Source → List ℕ → ℕ → Type 0
IsBad Lines text n = IsBadLine text n
IsBad (Records form) text n = IsBadRecord form text n
IsBad (Table table) text n = IsBadRow table text n
IsBad Object text n = (n ≡ 1) × ((entries : List Entry) → ¬ IsJsonObject text entries)

-- an error of reading entries: the first bad line or record, or reading a table failed, or there is no memory
abbrev pub IsTextFault : Source → List ℕ → ProgramFault → Type 0
IsTextFault source text (fault.Line n) = IsBad source text n
IsTextFault source text fault.Memory = Unit {0}
IsTextFault (Table table) text fault.InputFailed = Unit {0}
IsTextFault source text _ = ⊥
