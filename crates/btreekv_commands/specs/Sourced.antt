-- Look-ups in a source of bytes: what they find, and why they fail.
use Rattle.std.specs.BTreeMap.{is_at}
use Rattle.std.specs.Cmp.Lexicographic.{slice_cmp}
use Rattle.std.specs.Global.{Global}
use Rattle.std.specs.Map.{lookup}
use Rattle.std.specs.Option.{option_map}
use Rattle.std.specs.Ordering.{nat_cmp}
use Rattle.std.specs.Prelude.{◌≡◌, ◌⊎◌, ℕ, ◌<◌, Bool, List, [], ◌++◌}
use Rattle.std.specs.Prelude.{Option, Some, None, is_some, Result, Ok, Err, IfOk, IfErr, String, length, string_bytes, take}
use Rattle.rkyv_btree_portable.specs.Refusing.{RefusesWhole}
use Rattle.rkyv_btree_portable.specs.Text.{text_kind}
use Rattle.rkyv_btree_portable.specs.declared.refusal.Refusal.{Refusal}
use Rattle.rkyv_btree_portable.specs.declared.refusal.Refusal.TheVariants.{TooLong}
use Rattle.rkyv_btree_format.specs.OwnBytes.{own_at}
use Rattle.rkyv_btree_source.specs.declared.fault.SourceFault.{SourceFault}
use Rattle.rkyv_btree_source.specs.declared.fault.SourceFault.TheVariants as fault
use Rattle.rkyv_btree_unverified.specs.Lookups.{LookupGives}
use Rattle.rkyv_btree_unverified.specs.Steps.{value_place}
use Rattle.btreearc_lines.specs.declared.fault.ProgramFault.{ProgramFault}
use Rattle.btreearc_lines.specs.declared.fault.ProgramFault.TheVariants.{Misheaded, Refused, InputFailed, Memory}
use Rattle.btreearc_lines.specs.Headings.{IsMisheaded}
use Rattle.btreearc_lines.specs.declared.heading.HeadingFault.{HeadingFault}
use Rattle.btreekv_commands.specs.Commands.{found_in_archive, Outputs}
use Rattle.btreekv_commands.specs.Forms.{value_line}
use Rattle.btreekv_commands.specs.Lines.{Entry, line_of}
use Rattle.btreekv_commands.specs.declared.command.Command.TheVariants.{Get}
use Rattle.btreekv_commands.specs.declared.forms.Form.{Form}
use Rattle.btreekv_commands.specs.Opening.{texts, texts_name, IsArchive, IsInput, KeysIncrease}

-- an error of a look-up: refused bytes, and then P holds of their first error; or a failed read, or no memory
abbrev pub IsLookupFault : (Refusal → Type 0) → ProgramFault → Type 0
IsLookupFault P (Refused refusal) = P refusal
IsLookupFault P InputFailed = Unit {0}
IsLookupFault P Memory = Unit {0}
IsLookupFault P _ = ⊥

-- the first bytes of a source, which may be those of a header
abbrev pub first_bytes : List ℕ → List ℕ
first_bytes bytes = take 4096 bytes

-- why a source of these bytes isn't opened: its first ones are another header, or positions of 32 bits don't reach all; or a failed read
abbrev pub IsUnopenedSource : List ℕ → ProgramFault → Type 0
IsUnopenedSource bytes (Misheaded fault) = IsMisheaded texts_name (first_bytes bytes) fault
IsUnopenedSource bytes fault = IsLookupFault (λ refusal. (refusal ≡ TooLong) × (4294967295 < length bytes)) fault

-- P holds of what a file begins with, if the error is of that
abbrev pub IfMisheaded : (HeadingFault → Type 0) → ProgramFault → Type 0
IfMisheaded P (Misheaded fault) = P fault
IfMisheaded P fault = Unit {0}

-- the program's error for one of a source
abbrev pub lookup_fault : {E : Type 0} → SourceFault E → ProgramFault
lookup_fault (fault.Refused refusal) = Refused refusal
lookup_fault (fault.Read error) = InputFailed
lookup_fault (fault.NoRoom needed) = Memory
lookup_fault fault.OverBudget = InputFailed

-- a look-up that reads nothing after `end` has failed to read: by an error of the source, of which P holds, or because fewer than `end` bytes
-- are left of its budget
abbrev pub IsReadFailure : {E : Type 0} → (E → Type 0) → (end left : ℕ) → ProgramFault → Type 0
IsReadFailure {E} P end left fault = fault ≡ InputFailed → ((error : E) × P error) ⊎ (left < end)

-- what a search of bytes for a key ends with: the node and the number of an entry, none, or the first error in what it reads
abbrev pub SearchGives : List ℕ → List ℕ → Result (Option (ℕ × ℕ)) Refusal → Type 0
SearchGives bytes key =
    LookupGives text_kind text_kind 5 bytes (slice_cmp nat_cmp key) (RefusesWhole text_kind) (RefusesWhole text_kind) (own_at texts bytes)

-- the value of an entry
abbrev pub value_at : List ℕ → ℕ × ℕ → List ℕ
value_at bytes e = text_kind.read bytes (value_place text_kind text_kind 5 e)

-- what a look-up of a key gives in a source of these bytes
pub record GivesValue (bytes key : List ℕ) {Z : Type 0} (result : Result (Option (String Z)) ProgramFault) : Type 0 where
  -- in an archive whose keys increase it is what std's map finds
  pub sorted : (entries : List Entry) → IsArchive bytes entries → KeysIncrease entries
      → IfOk result (λ value. option_map string_bytes value ≡ lookup (is_at (slice_cmp nat_cmp key)) entries)
  -- in each archive it is what a look-up finds that reads all of it
  pub archived : (entries : List Entry) → IsArchive bytes entries
      → IfOk result (λ value. option_map string_bytes value ≡ option_map (λ e. e.1) (found_in_archive bytes key))
  -- no archive is refused
  pub accepts : (entries : List Entry) → IsArchive bytes entries → IfErr result (IsLookupFault (λ _. ⊥))
  -- in all bytes it is the value of the entry at which the search ends
  pub places : IfOk result (λ value. (entry : Option (ℕ × ℕ)) × SearchGives bytes key (Ok entry)
      × (option_map string_bytes value ≡ option_map (value_at bytes) entry))
  pub refuses : IfErr result (IsLookupFault (λ refusal. SearchGives bytes key (Err refusal)))

-- the value that is found, as it is written, with status 0; or nothing, with status 1
abbrev pub IsValueLine : (List ℕ → List ℕ) → Option (List ℕ) → List ℕ → ℕ → Type 0
IsValueLine write None text status = (text ≡ []) × (status ≡ 1)
IsValueLine write (Some value) text status = (text ≡ write value) × (status ≡ 0)

-- what a look-up of a key writes that a search of these bytes ends
pub record WritesFound (bytes : List ℕ) (form : Form) (key : String Global) (text : List ℕ) (status : ℕ) : Type 0 where
  -- of a file that the program opens it is what the command writes that reads all of it
  pub archived : (entries : List Entry) → IsInput bytes entries → Outputs (Get key form) bytes text status
  pub places : (entry : Option (ℕ × ℕ)) × SearchGives bytes (string_bytes key) (Ok entry)
      × IsValueLine (value_line form) (option_map (value_at bytes) entry) text status

-- why it writes nothing
pub record FailsToSearch (bytes key : List ℕ) (fault : ProgramFault) : Type 0 where
  -- no archive is refused
  pub accepts : (entries : List Entry) → IsArchive bytes entries → IsLookupFault (λ _. ⊥) fault
  pub refuses : IsLookupFault (λ refusal. SearchGives bytes key (Err refusal)) fault

-- the line of a key and the value that is found, or nothing
abbrev pub found_line : List ℕ → Option (List ℕ) → List ℕ
found_line key None = []
found_line key (Some value) = line_of (key, value)

-- a text has become longer by the line of a key which a search of these bytes finds
abbrev pub AppendsFound : (bytes key old new : List ℕ) → Bool → Type 0
AppendsFound bytes key old new is_found =
    (entry : Option (ℕ × ℕ)) × SearchGives bytes key (Ok entry) × (is_found ≡ is_some entry)
    × (new ≡ old ++ found_line key (option_map (value_at bytes) entry))
