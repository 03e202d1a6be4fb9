-- What each command writes of known input, and when it fails.
use Rattle.std.specs.List.{last_or}
use Rattle.std.specs.Prelude.{◌≡◌, ℕ, List, [], ◌∷◌, ◌++◌, Option, Some, None, IfSome, Result, Ok, Err}
use Rattle.std.specs.Prelude.{codes, decimal, length, slice_get, string_bytes}
use Rattle.std.specs.Cmp.Lexicographic.{slice_cmp}
use Rattle.std.specs.Io.KnownBytes.{Appends}
use Rattle.std.specs.Ordering.{nat_cmp}
use Rattle.std.specs.declared.alloc.AllocError.{AllocError}
use Rattle.std.specs.declared.ops.Bound.TheVariants.{Included}
use Rattle.rkyv_btree_writer.specs.declared.fault.Fault.{Fault}
use Rattle.rkyv_btree_portable.specs.declared.refusal.Refusal.{Refusal}
use Rattle.rkyv_btree_portable.specs.Text.{text_kind}
use Rattle.rkyv_btree_format.specs.OwnBytes.{own_at}
use Rattle.rkyv_btree_walk.specs.Bounds.{IsRun, IsWithin}
use Rattle.rkyv_btree_view.specs.Lookup.{found_at}
use Rattle.btreearc_lines.specs.declared.fault.ProgramFault.{ProgramFault}
use Rattle.btreearc_lines.specs.declared.fault.ProgramFault.TheVariants.{Line, Refused, Misheaded, NotBuilt, InputFailed, OutputFailed, Memory}
use Rattle.btreearc_lines.specs.Headings.{IsMisheaded}
use Rattle.btreearc_lines.specs.declared.heading.Heading.{Heading}
use Rattle.btreekv_commands.specs.Building.{last_values, IsBuilt, IsBuiltMap, IsUnbuilt, IsUnbuiltInOrder, IsUnbuiltMap}
use Rattle.btreekv_commands.specs.CsvRecords.{AreTableEntries, IsBadRow}
use Rattle.btreekv_commands.specs.Figures.{archive_figures, figures}
use Rattle.btreekv_commands.specs.Forms.{entry_line, text_in, value_line}
use Rattle.btreekv_commands.specs.declared.forms.Form.{Form}
use Rattle.btreekv_commands.specs.JsonObjects.{IsJsonObject}
use Rattle.btreekv_commands.specs.Lines.{Entry, AreLines, IsBadLine}
use Rattle.btreekv_commands.specs.Opening.{texts, texts_name, IsInput, KeysIncrease, CountsStrict, RefusesArchive, RefusesStrictArchive}
use Rattle.btreekv_commands.specs.Prefixes.{HasPrefix}
use Rattle.btreekv_commands.specs.Records.{AreRecords, IsBadRecord}
use Rattle.btreekv_commands.specs.declared.csv_records.Table.{Table}
use Rattle.btreekv_commands.specs.declared.records.Records.{Records}
use Rattle.btreekv_commands.specs.declared.command.Command.{Command}
use Rattle.btreekv_commands.specs.declared.command.Command.TheVariants.{Build, BuildFrom, BuildJson, BuildStrict, BuildSorted, BuildTable}
use Rattle.btreekv_commands.specs.declared.command.Command.TheVariants.{Check, CheckStrict, First, Get, Last, Prefix, Range, Stat}

-- the line of an archive of so many entries
abbrev pub total : ℕ → List ℕ
total count = codes "ok " ++ (decimal count ++ (codes " entries" ++ 10 ∷ []))

-- the entry that a search of an archive for a key finds
abbrev pub found_in_archive : List ℕ → List ℕ → Option Entry
found_in_archive b key = found_at text_kind text_kind 5 b (own_at texts b) (slice_cmp nat_cmp key)

-- the value that is found, as it is written, with status 0; or nothing, with status 1
abbrev pub FoundValue : (List ℕ → List ℕ) → Option Entry → List ℕ → ℕ → Type 0
FoundValue written None text status = (text ≡ []) × (status ≡ 1)
FoundValue written (Some e) text status = (text ≡ written e.1) × (status ≡ 0)

-- an entry, as it is written, with status 0; or nothing, with status 1
abbrev pub WrittenEntry : Form → Option Entry → List ℕ → ℕ → Type 0
WrittenEntry form None text status = (text ≡ []) × (status ≡ 1)
WrittenEntry form (Some e) text status = (text ≡ entry_line form e) × (status ≡ 0)

-- so the first entry of a list, and the last one
abbrev pub FirstEntry : Form → List Entry → List ℕ → ℕ → Type 0
FirstEntry form entries text status = WrittenEntry form (slice_get entries 0) text status

abbrev pub LastEntry : Form → List Entry → List ℕ → ℕ → Type 0
LastEntry form entries text status = WrittenEntry form (last_or None entries) text status

-- these entries of a list are a run of it, and those from the key `low` to the key `high`
pub record IsBetween (low high : List ℕ) (entries within : List Entry) : Type 0 where
  pub run : IsRun within entries
  pub all : IsWithin (Included (slice_cmp nat_cmp low)) (Included (slice_cmp nat_cmp high)) entries within

-- what a command writes of an input, and its status
abbrev pub Outputs : Command → List ℕ → List ℕ → ℕ → Type 0
Outputs (Build heading) input text status = (status ≡ 0) × ((entries : List Entry) × AreLines input entries × IsBuilt heading text entries)
Outputs (BuildStrict heading) input text status =
    (status ≡ 0) × ((entries : List Entry) × AreLines input entries × IsBuilt heading text entries × KeysIncrease entries)
Outputs (BuildSorted heading) input text status =
    (status ≡ 0) × ((entries : List Entry) × AreLines input entries
    × IsBuiltMap heading text (last_values entries) × KeysIncrease (last_values entries))
Outputs (BuildFrom form heading) input text status =
    (status ≡ 0) × ((entries : List Entry) × AreRecords form input entries
    × IsBuiltMap heading text (last_values entries) × KeysIncrease (last_values entries))
Outputs (BuildTable table heading) input text status =
    (status ≡ 0) × ((entries : List Entry) × AreTableEntries table input entries
    × IsBuiltMap heading text (last_values entries) × KeysIncrease (last_values entries))
Outputs (BuildJson heading) input text status =
    (status ≡ 0) × ((entries : List Entry) × IsJsonObject input entries × IsBuiltMap heading text entries × KeysIncrease entries)
Outputs Check input text status = (status ≡ 0) × ((entries : List Entry) × IsInput input entries × (text ≡ total (length entries)))
Outputs CheckStrict input text status = (status ≡ 0) × ((count : ℕ) × CountsStrict input count × (text ≡ total count))
Outputs Stat input text status =
    (status ≡ 0) × ((entries : List Entry) × (is : IsInput input entries)
    × (text ≡ figures (length entries) (archive_figures input entries is.1) (length input)))
Outputs (First form) input text status = (entries : List Entry) × IsInput input entries × FirstEntry form entries text status
Outputs (Last form) input text status = (entries : List Entry) × IsInput input entries × LastEntry form entries text status
Outputs (Get key form) input text status =
    ((entries : List Entry) × IsInput input entries)
    × FoundValue (value_line form) (found_in_archive input (string_bytes key)) text status
Outputs (Range low high form) input text status =
    (status ≡ 0) × ((entries within : List Entry) × IsInput input entries
    × IsBetween (string_bytes low) (string_bytes high) entries within × (text ≡ text_in form within))
Outputs (Prefix prefix form) input text status =
    (status ≡ 0) × ((entries within : List Entry) × IsInput input entries
    × HasPrefix (string_bytes prefix) entries within × (text ≡ text_in form within))

-- why an archive isn't built of an input: its first bad line, or why its entries have no archive; or reading it failed, or
-- there is no memory
abbrev pub FailsToBuild : (List Entry → Fault AllocError → Type 0) → List ℕ → ProgramFault → Type 0
FailsToBuild Unbuilt input (Line n) = IsBadLine input n
FailsToBuild Unbuilt input (NotBuilt fault) = (entries : List Entry) × AreLines input entries × Unbuilt entries fault
FailsToBuild Unbuilt input InputFailed = Unit {0}
FailsToBuild Unbuilt input Memory = Unit {0}
FailsToBuild Unbuilt input _ = ⊥

-- why an archive isn't built of records: the first bad one, or why their entries have no archive; or there is no memory
abbrev pub FailsToBuildFrom : Records → Heading → List ℕ → ProgramFault → Type 0
FailsToBuildFrom form heading input (Line n) = IsBadRecord form input n
FailsToBuildFrom form heading input (NotBuilt fault) =
    (entries : List Entry) × AreRecords form input entries × IsUnbuiltMap heading (last_values entries) fault
FailsToBuildFrom form heading input Memory = Unit {0}
FailsToBuildFrom form heading input _ = ⊥

-- why an archive isn't built of a table: the first bad record, or why its entries have no archive; or reading it failed, or there
-- is no memory
abbrev pub FailsToBuildTable : Table → Heading → List ℕ → ProgramFault → Type 0
FailsToBuildTable table heading input (Line n) = IsBadRow table input n
FailsToBuildTable table heading input (NotBuilt fault) =
    (entries : List Entry) × AreTableEntries table input entries × IsUnbuiltMap heading (last_values entries) fault
FailsToBuildTable table heading input InputFailed = Unit {0}
FailsToBuildTable table heading input Memory = Unit {0}
FailsToBuildTable table heading input _ = ⊥

-- why an archive isn't built of a JSON object: the input is none, which is the first record; or why its entries have no archive; or there
-- is no memory
abbrev pub FailsToBuildJson : Heading → List ℕ → ProgramFault → Type 0
FailsToBuildJson heading input (Line n) = (n ≡ 1) × ((entries : List Entry) → ¬ IsJsonObject input entries)
FailsToBuildJson heading input (NotBuilt fault) = (entries : List Entry) × IsJsonObject input entries × IsUnbuiltMap heading entries fault
FailsToBuildJson heading input Memory = Unit {0}
FailsToBuildJson heading input _ = ⊥

-- why an archive isn't read: another header comes first, or the first error of bytes that are none; or there is no memory
abbrev pub FailsToRead : (List ℕ → Refusal → Type 0) → List ℕ → ProgramFault → Type 0
FailsToRead Refuses input (Refused refusal) = Refuses input refusal
FailsToRead Refuses input (Misheaded fault) = IsMisheaded texts_name input fault
FailsToRead Refuses input Memory = Unit {0}
FailsToRead Refuses input _ = ⊥

-- why a command has no output for an input
abbrev pub Fails : Command → List ℕ → ProgramFault → Type 0
Fails (Build heading) input fault = FailsToBuild (IsUnbuilt heading) input fault
Fails (BuildStrict heading) input fault = FailsToBuild (IsUnbuiltInOrder heading) input fault
Fails (BuildSorted heading) input fault = FailsToBuild (λ entries. IsUnbuiltMap heading (last_values entries)) input fault
Fails (BuildFrom form heading) input fault = FailsToBuildFrom form heading input fault
Fails (BuildTable table heading) input fault = FailsToBuildTable table heading input fault
Fails (BuildJson heading) input fault = FailsToBuildJson heading input fault
Fails CheckStrict input fault = FailsToRead RefusesStrictArchive input fault
Fails _ input fault = FailsToRead RefusesArchive input fault

-- a command has written its output; or it has failed by its cause, and has written nothing; or reading, memory or writing
-- failed. Only a failed write may leave a part of the output
abbrev pub Does : Command → Option (List ℕ) → Option (List ℕ) → Option (List ℕ) → Result ℕ ProgramFault → Type 0
Does command input old new (Ok status) =
    IfSome input (λ bytes. (text : List ℕ) × Outputs command bytes text status × Appends old new text)
Does command input old new (Err InputFailed) = new ≡ old
Does command input old new (Err Memory) = new ≡ old
Does command input old new (Err OutputFailed) =
    IfSome input (λ bytes. (text : List ℕ) × (status : ℕ) × Outputs command bytes text status)
Does command input old new (Err fault) = IfSome input (λ bytes. Fails command bytes fault) × (new ≡ old)
