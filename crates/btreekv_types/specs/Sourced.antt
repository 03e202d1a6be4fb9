-- Look-ups in typed maps that read a part of a source of bytes: what they find, and why they fail.
use Rattle.std.specs.BTreeMap.{is_at}
use Rattle.std.specs.Global.{Global}
use Rattle.std.specs.Map.{lookup}
use Rattle.std.specs.Option.{option_map}
use Rattle.std.specs.Prelude.{◌≡◌, ℕ, ◌<◌, ◌≤◌, Bool, List, ◌++◌, Option, Result, Ok, Err, String, is_some, length, string_bytes}
use Rattle.rkyv_btree_format.specs.Increasing.{Increasing}
use Rattle.rkyv_btree_format.specs.OwnBytes.{IsArchiveOf, own_at}
use Rattle.rkyv_btree_portable.specs.Kind.{Kind}
use Rattle.rkyv_btree_portable.specs.declared.refusal.Refusal.{Refusal}
use Rattle.rkyv_btree_portable.specs.declared.refusal.Refusal.TheVariants.{TooLong}
use Rattle.rkyv_btree_source.specs.declared.fault.SourceFault.{SourceFault}
use Rattle.rkyv_btree_source.specs.declared.fault.SourceFault.TheVariants.{NoRoom}
use Rattle.rkyv_btree_unverified.specs.Lookups.{LookupGives}
use Rattle.rkyv_btree_unverified.specs.Steps.{value_place}
use Rattle.rkyv_btree_verify.specs.Map.{map_kind}
use Rattle.btreearc_lines.specs.Headings.{IsHeaded, IsMisheaded}
use Rattle.btreearc_lines.specs.declared.fault.ProgramFault.{ProgramFault}
use Rattle.btreearc_lines.specs.declared.fault.ProgramFault.TheVariants.{Misheaded}
use Rattle.btreearc_lines.specs.declared.heading.Heading.{Heading}
use Rattle.btreekv_commands.specs.Forms.{value_line}
use Rattle.btreekv_commands.specs.Sourced.{IsLookupFault, IsValueLine, first_bytes, found_line}
use Rattle.btreekv_commands.specs.declared.forms.Form.{Form}
use Rattle.btreekv_types.specs.Commands.{IsKey, Outputs, found_texts}
use Rattle.btreekv_types.specs.Natives.{IsNoText}
use Rattle.btreekv_types.specs.Typed.{IsTypedInput, Items}
use Rattle.btreekv_types.specs.declared.command.TypedCommand.TheVariants.{Get}
use Rattle.btreekv_types.specs.declared.fault.TypedFault.{TypedFault}
use Rattle.btreekv_types.specs.declared.fault.TypedFault.TheVariants.{Program, NoKey}

-- P holds of the error of any command
abbrev pub IfProgram : (ProgramFault → Type 0) → TypedFault → Type 0
IfProgram P (Program fault) = P fault
IfProgram P _ = Unit {0}

-- a look-up was lent too short a buffer, and P holds of the number of bytes that it needs
abbrev pub IsNoRoom : {E : Type 0} → (ℕ → Type 0) → SourceFault E → Type 0
IsNoRoom P (NoRoom needed) = P needed
IsNoRoom P _ = ⊥

-- a buffer has been made as long as a look-up needs it
abbrev pub IsLengthened : {E : Type 0} → SourceFault E → List ℕ → Type 0
IsLengthened fault room = IsNoRoom (λ needed. (length room ≡ needed) × (needed ≤ 4294967295)) fault

-- the first bytes of a source are those of a file with the header of this name, or with none
abbrev pub HasFitName : List ℕ → List ℕ → Type 0
HasFitName name bytes = (heading : Heading) × IsHeaded name (first_bytes bytes) heading

-- why a source of these bytes isn't opened: its first ones are another header, or positions of 32 bits don't reach all; or a failed read
abbrev pub IsUnopened : List ℕ → List ℕ → ProgramFault → Type 0
IsUnopened name bytes (Misheaded fault) = IsMisheaded name (first_bytes bytes) fault
IsUnopened name bytes fault = IsLookupFault (λ refusal. (refusal ≡ TooLong) × (4294967295 < length bytes)) fault

module _ (K V : Kind) (name : List ℕ) (keys : Items K.Value) (values : Items V.Value) (KR VR : List ℕ → ℕ → ℕ → ℕ → Refusal → Type 0) (bytes : List ℕ) where
  -- what a search of the bytes for a key ends with: the node and the number of an entry, none, or the first error in what it reads
  abbrev pub SearchGives : K.Value → Result (Option (ℕ × ℕ)) Refusal → Type 0
  SearchGives key result = LookupGives K V 5 bytes (K.order key) KR VR (own_at (map_kind K V 5) bytes) result

  -- the text of the value of an entry
  abbrev pub value_text_at : ℕ × ℕ → List ℕ
  value_text_at e = values.text (V.read bytes (value_place K V 5 e))

  -- what a look-up of a word finds, which is the text of a key: the text of a value, or none
  pub record FindsText (word : List ℕ) (value : Option (List ℕ)) : Type 0 where
    pub key : K.Value
    pub is_key : IsKey K V name keys values word key
    -- in an archive whose keys increase it is what std's map finds
    pub sorted : (entries : List (K.Value × V.Value)) → IsArchiveOf (map_kind K V 5) bytes entries → Increasing K.order entries
        → value ≡ option_map values.text (lookup (is_at (K.order key)) entries)
    -- in each archive it is what a look-up finds that reads all of it
    pub archived : (entries : List (K.Value × V.Value)) → IsArchiveOf (map_kind K V 5) bytes entries
        → value ≡ option_map (λ e. e.1) (found_texts K V name keys values bytes key)
    -- in all bytes it is the value of the entry at which the search ends
    pub entry : Option (ℕ × ℕ)
    pub ends : SearchGives key (Ok entry)
    pub places : value ≡ option_map value_text_at entry

  -- what it writes
  pub record WritesFound (word : String Global) (form : Form) (text : List ℕ) (status : ℕ) : Type 0 where
    -- of a file that the command accepts it is what the command writes that reads all of it
    pub archived : (entries : List (K.Value × V.Value)) → IsTypedInput K V name bytes entries
        → Outputs K V name keys values (Get word form) bytes text status
    pub value : Option (List ℕ)
    pub finds : FindsText (string_bytes word) value
    pub line : IsValueLine (value_line form) value text status

  -- why the search for a word has failed that is the text of a key
  pub record FailsToSearch (word : List ℕ) (fault : ProgramFault) : Type 0 where
    -- no archive is refused
    pub accepts : (entries : List (K.Value × V.Value)) → IsArchiveOf (map_kind K V 5) bytes entries → IsLookupFault (λ _. ⊥) fault
    pub refuses : IsLookupFault (λ refusal. (key : K.Value) × IsKey K V name keys values word key × SearchGives key (Err refusal)) fault

  -- why a look-up of a word gives nothing: it is the text of no key, or the search has failed
  abbrev pub FailsToFind : List ℕ → TypedFault → Type 0
  FailsToFind word NoKey = IsNoText keys word
  FailsToFind word (Program fault) = FailsToSearch word fault
  FailsToFind word _ = ⊥

  -- a text has become longer by the line of a word and the text that is found, or by nothing
  abbrev pub AppendsFound : (word old new : List ℕ) → Bool → Type 0
  AppendsFound word old new is_found =
      (value : Option (List ℕ)) × FindsText word value × (is_found ≡ is_some value) × (new ≡ old ++ found_line word value)
