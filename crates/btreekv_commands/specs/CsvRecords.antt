-- Tables of two columns, as CSV or TSV. The crate `csv` says what the records of a text are, and what the text of a record is.
use Rattle.std.specs.Prelude.{◌≡◌, ℕ, ◌+◌, List, [], ◌∷◌, ◌++◌, Option, Some, false, Vec, if◌then◌else◌}
use Rattle.std.specs.Prelude.{IsUtf8, codes, flat_map, length, map}
use Rattle.std.specs.declared.alloc.Global.{Global}
use Rattle.csv.specs.Reading.{AreRecords, Reached, default_config, is_io, strip_bom}
use Rattle.csv.specs.Writing.{default_writer, fields_written, has_written, row_text, text_written, with_delimiter, writer_setup}
use Rattle.csv.specs.declared.error.ErrorKind.{ErrorKind}
use Rattle.csv.specs.declared.parser.Config.{Config}
use Rattle.csv.specs.declared.parser.State.{State}
use Rattle.csv.specs.declared.parser.State.TheVariants.{StartRecord}
use Rattle.csv.specs.declared.writer.Writer.{Writer}
use Rattle.csv.specs.declared.writer.WriterBuilder.{WriterBuilder}
use Rattle.btreearc_lines.specs.declared.fault.ProgramFault.{ProgramFault}
use Rattle.btreearc_lines.specs.declared.fault.ProgramFault.TheVariants.{Line, InputFailed, Memory}
use Rattle.btreekv_commands.specs.Lines.{Entry}
use Rattle.btreekv_commands.specs.declared.csv_records.Table.{Table}
use Rattle.btreekv_commands.specs.declared.csv_records.Table.TheVariants.{Csv, Tsv}

-- the byte between the fields of a table
abbrev pub delimiter_of : Table → ℕ
delimiter_of Csv = 44
delimiter_of Tsv = 9

-- how the records of a table are read, and how they are written
abbrev pub reading : Table → Config
reading table = record default_config { delimiter = delimiter_of table }

abbrev pub writing : Table → WriterBuilder
writing table = with_delimiter default_writer (delimiter_of table)

-- a record of two fields, which are texts
pub record IsPair (row : List (List ℕ)) (x : Entry) : Type 0 where
  pub fields : row ≡ x.0 ∷ x.1 ∷ []
  pub key : IsUtf8 x.0
  pub value : IsUtf8 x.1

-- record by record
abbrev pub ArePairs : List (List (List ℕ)) → List Entry → Type 0
ArePairs [] [] = Unit {0}
ArePairs [] (x ∷ xs) = ⊥
ArePairs (row ∷ rows) [] = ⊥
ArePairs (row ∷ rows) (x ∷ xs) = IsPair row x × ArePairs rows xs

-- all records of bytes are these pairs. A byte order mark at the start is no part of them
pub record IsTable (table : Table) (bytes : List ℕ) (pairs : List Entry) : Type 0 where
  pub rows : List (List (List ℕ))
  pub all : AreRecords (reading table) StartRecord (strip_bom bytes) rows
  pub are : ArePairs rows pairs

-- the pairs after the first, which names the columns
abbrev pub below_header : List Entry → List Entry
below_header [] = []
below_header (x ∷ xs) = xs

-- the entries of a table
abbrev pub AreTableEntries : Table → List ℕ → List Entry → Type 0
AreTableEntries table bytes entries = (pairs : List Entry) × IsTable table bytes pairs × (entries ≡ below_header pairs)

-- record n, counted from 1, is the first that is no pair
pub record IsBadRow (table : Table) (bytes : List ℕ) (n : ℕ) : Type 0 where
  pub before : List (List (List ℕ))
  pub bad : List (List ℕ)
  pub pairs : List Entry
  pub state : State
  pub rest : List ℕ
  pub first : Reached (reading table) StartRecord (strip_bom bytes) (before ++ bad ∷ []) state rest
  pub good : ArePairs before pairs
  pub no_pair : (x : Entry) → ¬ IsPair bad x
  pub number : n ≡ length before + 1

-- an error of reading a table: its first bad record, or the reader failed, or there is no memory
abbrev pub IsTableFault : Table → List ℕ → ProgramFault → Type 0
IsTableFault table bytes (Line n) = IsBadRow table bytes n
IsTableFault table bytes InputFailed = Unit {0}
IsTableFault table bytes Memory = Unit {0}
IsTableFault table bytes _ = ⊥

-- the program's error for one that stops a reader: a failed read below it, or no memory
abbrev pub stop_of : ErrorKind → ProgramFault
stop_of kind = if is_io kind then InputFailed else Memory

-- the record of an entry
abbrev pub entry_row : Table → Entry → List ℕ
entry_row table e = row_text (writing table) (e.0 ∷ e.1 ∷ [])

-- the record that names the columns
abbrev pub header : Entry
header = (codes "key", codes "value")

-- a record an entry
abbrev pub rows_text : Table → List Entry → List ℕ
rows_text table entries = flat_map (entry_row table) entries

-- the text of a table: the header, and a record an entry
abbrev pub table_text : Table → List Entry → List ℕ
table_text table entries = rows_text table (header ∷ entries)

-- a writer of a table is between two records, and has written this text
pub record HasWritten (table : Table) (writer : Writer (Vec ℕ Global)) (written : List ℕ) : Type 0 where
  pub setup : writer_setup writer ≡ writing table
  pub fields : fields_written writer ≡ 0
  pub begun : has_written writer ≡ false
  pub text : text_written (λ out. Some out.items) writer ≡ Some written
