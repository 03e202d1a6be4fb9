-- What each command over typed maps writes of known input, and when it fails.
use Rattle.std.specs.Prelude.{◌≡◌, ◌⊎◌, ℕ, ◌+◌, List, [], ◌∷◌, ◌++◌, Option, IfSome, Result, Ok, Err, flat_map, length, map, string_bytes}
use Rattle.std.specs.Io.KnownBytes.{Appends}
use Rattle.std.specs.Option.{option_map}
use Rattle.std.specs.declared.ops.Bound.TheVariants.{Included}
use Rattle.rkyv_btree_format.specs.Increasing.{Increasing, IsOutOfOrder}
use Rattle.rkyv_btree_format.specs.OwnBytes.{own_at}
use Rattle.rkyv_btree_portable.specs.Kind.{Kind}
use Rattle.rkyv_btree_portable.specs.declared.refusal.Refusal.{Refusal}
use Rattle.rkyv_btree_update.specs.declared.change.Change.{Change}
use Rattle.rkyv_btree_verify.specs.Map.{map_kind}
use Rattle.rkyv_btree_view.specs.Lookup.{found_at}
use Rattle.rkyv_btree_walk.specs.Bounds.{IsRun, IsWithin}
use Rattle.rkyv_btree_writer.specs.Archiving.{Archival}
use Rattle.rkyv_btree_writer.specs.declared.fault.Fault.TheVariants.{OutOfOrder}
use Rattle.btreearc_lines.specs.Grammar.{AreEach}
use Rattle.btreearc_lines.specs.Headings.{IsHeaded}
use Rattle.btreearc_lines.specs.declared.fault.ProgramFault.{ProgramFault}
use Rattle.btreearc_lines.specs.declared.fault.ProgramFault.TheVariants.{Line, InputFailed, OutputFailed, Memory, NotBuilt}
use Rattle.btreekv_commands.specs.Changing.{AreChanges, IsBadChange, TextChange}
use Rattle.btreekv_commands.specs.Commands.{FirstEntry, FoundValue, LastEntry, total}
use Rattle.btreekv_commands.specs.Forms.{text_in, value_line}
use Rattle.btreekv_commands.specs.Lines.{Entry}
use Rattle.btreekv_types.specs.Archiving.{IsUnarchived, archived_entries}
use Rattle.btreekv_types.specs.Changes.{AreTypedChanges, IsFirstBadKey, IsFirstBadValue, changed_texts}
use Rattle.btreekv_types.specs.Differing.{IsDiffOf}
use Rattle.btreekv_types.specs.Listing.{list_text, prefixed_text}
use Rattle.btreekv_types.specs.Natives.{IsNativeFault, IsNoText}
use Rattle.btreekv_types.specs.Sources.{AreTexts, IsTextFault}
use Rattle.btreekv_types.specs.Typed.{AreTyped, IsTypedFile, IsTypedInput, IsTypedOpenFault, Items, RefusesTyped, RefusesTypedStrict, spelled, spelled_entry}
use Rattle.btreearc_lines.specs.declared.heading.Heading.{Heading}
use Rattle.btreekv_types.specs.declared.command.Order.{Order}
use Rattle.btreekv_types.specs.declared.command.Order.TheVariants.{Any, Increasing as InOrder}
use Rattle.btreekv_types.specs.declared.source.Source.{Source}
use Rattle.btreekv_types.specs.declared.command.TypedCommand.{TypedCommand}
use Rattle.btreekv_types.specs.declared.command.TypedCommand.TheVariants.{Build, List as ListEntries, Check, CheckStrict, First, Last, Get, Range, Set, Merge, Update, Diff, Prefix}
use Rattle.btreekv_types.specs.declared.fault.TypedFault.{TypedFault}
use Rattle.btreekv_types.specs.declared.fault.TypedFault.TheVariants.{Program, Archive, BadKey, BadValue, NoKey, NoLow, NoHigh}

-- these entries of a list are a run of it, and those from the key `low` to the key `high`
pub record IsBetweenKeys (K : Kind) {B : Type 0} (low high : K.Value) (entries within : List (K.Value × B)) : Type 0 where
  pub run : IsRun within entries
  pub all : IsWithin (Included (K.order low)) (Included (K.order high)) entries within

module _ (K V : Kind) (name : List ℕ) (keys : Items K.Value) (values : Items V.Value) where
  -- a key of the type with this text
  abbrev pub IsKey : List ℕ → K.Value → Type 0
  IsKey text key = keys.IsValue key × (keys.text key ≡ text)

  -- the entry that a search of an archive for a key finds, as texts
  abbrev pub found_texts : List ℕ → K.Value → Option Entry
  found_texts b key = option_map (spelled_entry keys values) (found_at K V 5 b (own_at (map_kind K V 5) b) (K.order key))

  -- a file is that of the entries which are these texts, in increasing order of their keys
  pub record IsBuiltOf (order : Order) (heading : Heading) (texts : List Entry) (bytes : List ℕ) : Type 0 where
    pub entries : List (K.Value × V.Value)
    pub typed : AreTyped keys values texts entries
    pub file : IsTypedFile K V name heading bytes (archived_entries K.order order entries)
    pub increase : Increasing K.order (archived_entries K.order order entries)

  -- a file is an archive whose keys increase, and these are its entries
  abbrev pub HasTexts : List ℕ → List Entry → Type 0
  HasTexts bytes texts =
      (entries : List (K.Value × V.Value)) × IsTypedInput K V name bytes entries × Increasing K.order entries × (texts ≡ spelled keys values entries)

  -- the same of any archive
  abbrev pub ListsTexts : List ℕ → List Entry → Type 0
  ListsTexts bytes texts = (entries : List (K.Value × V.Value)) × IsTypedInput K V name bytes entries × (texts ≡ spelled keys values entries)

  -- texts have become longer by the entries of a file whose keys increase, and by those of several, one after the other
  abbrev pub AppendsTexts : List ℕ → (old new : List Entry) → Type 0
  AppendsTexts bytes old new = (texts : List Entry) × HasTexts bytes texts × (new ≡ old ++ texts)

  abbrev pub AppendsEach : List (List ℕ) → (old new : List Entry) → Type 0
  AppendsEach files old new = (lists : List (List Entry)) × AreEach HasTexts files lists × (new ≡ old ++ flat_map (λ texts. texts) lists)

  -- a file has a header if another has one, and is that of the entries of both, of which one comes after the other's
  abbrev pub IsFileWith : List ℕ → Entry → List ℕ → Type 0
  IsFileWith input entry bytes =
      (heading : Heading) × (texts : List Entry) × IsHeaded name input heading × HasTexts input texts × IsBuiltOf Any heading (texts ++ entry ∷ []) bytes

  -- the same of the entries of several files
  abbrev pub IsMergeOf : List ℕ → List (List ℕ) → List ℕ → Type 0
  IsMergeOf input others bytes =
      (heading : Heading) × (lists : List (List Entry)) × IsHeaded name input heading × AreEach HasTexts (input ∷ others) lists
      × IsBuiltOf Any heading (flat_map (λ texts. texts) lists) bytes

  -- a file has a header if another has one, and is that of the entries of it after the changes of lines, which are made in turn
  pub record IsUpdateOf (order : Order) (input lines bytes : List ℕ) : Type 0 where
    pub heading : Heading
    pub entries : List (K.Value × V.Value)
    pub changes : List (K.Value × Change (List ℕ))
    pub headed : IsHeaded name input heading
    pub old : IsTypedInput K V name input entries
    pub increase : Increasing K.order entries
    pub typed : AreTypedChanges keys values lines changes
    pub in_order : order ≡ InOrder → Increasing K.order changes
    pub new : IsBuiltOf Any heading (changed_texts keys values K.order entries changes) bytes

  -- what a command writes of an input, and its status
  abbrev pub Outputs : TypedCommand → List ℕ → List ℕ → ℕ → Type 0
  Outputs (Build source order heading) input text status =
      (status ≡ 0) × ((texts : List Entry) × AreTexts source input texts × IsBuiltOf order heading texts text)
  Outputs (ListEntries form) input text status =
      (status ≡ 0) × ((entries : List (K.Value × V.Value)) × IsTypedInput K V name input entries × (text ≡ list_text form (spelled keys values entries)))
  Outputs Check input text status =
      (status ≡ 0) × ((entries : List (K.Value × V.Value)) × IsTypedInput K V name input entries × (text ≡ total (length entries)))
  Outputs CheckStrict input text status =
      (status ≡ 0) × ((entries : List (K.Value × V.Value)) × IsTypedInput K V name input entries × Increasing K.order entries × (text ≡ total (length entries)))
  Outputs (First form) input text status =
      (entries : List (K.Value × V.Value)) × IsTypedInput K V name input entries × FirstEntry form (spelled keys values entries) text status
  Outputs (Last form) input text status =
      (entries : List (K.Value × V.Value)) × IsTypedInput K V name input entries × LastEntry form (spelled keys values entries) text status
  Outputs (Set key value) input text status = (status ≡ 0) × IsFileWith input (string_bytes key, string_bytes value) text
  Outputs (Merge others) input text status = (status ≡ 0) × IsMergeOf input (map (λ file. file.items) others.items) text
  Outputs (Update order lines) input text status = (status ≡ 0) × IsUpdateOf order input lines.items text
  Outputs (Diff other) input text status = (status ≡ 0) × IsDiffOf K V name keys values input other.items text
  Outputs (Prefix prefix form) input text status =
      (status ≡ 0) × ((texts : List Entry) × ListsTexts input texts × (text ≡ prefixed_text (string_bytes prefix) form texts))
  Outputs (Get word form) input text status =
      ((entries : List (K.Value × V.Value)) × IsTypedInput K V name input entries)
      × ((key : K.Value) × IsKey (string_bytes word) key × FoundValue (value_line form) (found_texts input key) text status)
  Outputs (Range low high form) input text status =
      (status ≡ 0) × ((entries within : List (K.Value × V.Value)) × (lo hi : K.Value) × IsTypedInput K V name input entries
      × IsKey (string_bytes low) lo × IsKey (string_bytes high) hi × IsBetweenKeys K lo hi entries within × (text ≡ text_in form (spelled keys values within)))

  -- why an archive isn't read: another header comes first, or the first error of bytes that are none; or there is no memory
  abbrev pub FailsToRead : (List ℕ → Refusal → Type 0) → List ℕ → TypedFault → Type 0
  FailsToRead Refuses input (Program Memory) = Unit {0}
  FailsToRead Refuses input (Program fault) = IsTypedOpenFault K V name Refuses input fault
  FailsToRead Refuses input _ = ⊥

  -- the first of several files that isn't read, by its number, and why
  pub record IsUnreadAt (files : List (List ℕ)) (n : ℕ) (fault : ProgramFault) : Type 0 where
    pub front : List (List ℕ)
    pub file : List ℕ
    pub back : List (List ℕ)
    pub parts : files ≡ front ++ file ∷ back
    pub number : n ≡ length front
    pub lists : List (List Entry)
    pub before : AreEach HasTexts front lists
    pub unread : FailsToRead (RefusesTypedStrict K V name) file (Program fault)

  -- why two archives have no difference: the first that isn't read, by its number, 0 or 1, and why; or there is no memory
  abbrev pub FailsToDiff : List ℕ → List ℕ → TypedFault → Type 0
  FailsToDiff input other (Archive n fault) = IsUnreadAt (input ∷ other ∷ []) n fault
  FailsToDiff input other (Program Memory) = Unit {0}
  FailsToDiff input other _ = ⊥

  -- of others than the first, which is number 0
  abbrev pub IsUnreadAmong : List (List ℕ) → TypedFault → Type 0
  IsUnreadAmong others (Archive n fault) = (at : ℕ) × (n ≡ at + 1) × IsUnreadAt others at fault
  IsUnreadAmong others _ = ⊥

  module _ {X R Y S : Type 0} (KA : Archival X R) (VA : Archival Y S) where
    -- why entries of texts have no file: the first bad one, or why the entries which are these texts have none
    abbrev pub IsUnbuiltOf : Order → Heading → List Entry → TypedFault → Type 0
    IsUnbuiltOf order heading texts (Program (NotBuilt fault)) =
        (entries : List (K.Value × V.Value)) × AreTyped keys values texts entries × IsUnarchived KA VA K V name order heading entries fault
    IsUnbuiltOf order heading texts fault = IsNativeFault keys values texts fault

    -- why no archive is built of an input: its first bad line or record, or why its entries have no file
    abbrev pub FailsToBuild : Source → Order → Heading → List ℕ → TypedFault → Type 0
    FailsToBuild source order heading input (Program (Line n)) = IsTextFault source input (Line n)
    FailsToBuild source order heading input (Program InputFailed) = IsTextFault source input InputFailed
    FailsToBuild source order heading input (Program Memory) = Unit {0}
    FailsToBuild source order heading input fault = (texts : List Entry) × AreTexts source input texts × IsUnbuiltOf order heading texts fault

    -- why one more entry than those of a file isn't archived: the file isn't read, or why the entries have no file
    abbrev pub FailsToSet : List ℕ → Entry → TypedFault → Type 0
    FailsToSet input entry fault =
        FailsToRead (RefusesTypedStrict K V name) input fault
        ⊎ ((heading : Heading) × (texts : List Entry) × IsHeaded name input heading × HasTexts input texts × IsUnbuiltOf Any heading (texts ++ entry ∷ []) fault)

    -- why the entries of several files aren't archived: one isn't read, or why the entries have no file
    abbrev pub FailsToMerge : List ℕ → List (List ℕ) → TypedFault → Type 0
    FailsToMerge input others (Archive n fault) = IsUnreadAt (input ∷ others) n fault
    FailsToMerge input others fault =
        (heading : Heading) × (lists : List (List Entry)) × IsHeaded name input heading × AreEach HasTexts (input ∷ others) lists
        × IsUnbuiltOf Any heading (flat_map (λ texts. texts) lists) fault

    -- why an archive's entries after changes have no file
    pub record IsUnupdated (input lines : List ℕ) (fault : TypedFault) : Type 0 where
      pub heading : Heading
      pub entries : List (K.Value × V.Value)
      pub changes : List (K.Value × Change (List ℕ))
      pub headed : IsHeaded name input heading
      pub old : IsTypedInput K V name input entries
      pub increase : Increasing K.order entries
      pub typed : AreTypedChanges keys values lines changes
      pub unbuilt : IsUnbuiltOf Any heading (changed_texts keys values K.order entries changes) fault

    -- why an archive isn't updated by lines: the first line that is no change, the first whose key is none of the type of keys, the
    -- first that puts no value of the type of values, or the first out of order; the archive isn't read, or the entries after the
    -- changes have no file
    abbrev pub FailsToUpdate : Order → List ℕ → List ℕ → TypedFault → Type 0
    FailsToUpdate order input lines (Program (Line n)) = IsBadChange lines n
    FailsToUpdate order input lines (BadKey n) = (changes : List TextChange) × AreChanges lines changes × IsFirstBadKey keys keys changes n
    FailsToUpdate order input lines (BadValue n) = (changes : List TextChange) × AreChanges lines changes × IsFirstBadValue values values changes n
    FailsToUpdate order input lines (Program (NotBuilt (OutOfOrder index))) =
        (order ≡ InOrder) × ((changes : List (K.Value × Change (List ℕ))) × AreTypedChanges keys values lines changes × IsOutOfOrder K.order changes index)
    FailsToUpdate order input lines (Program (NotBuilt fault)) = IsUnupdated input lines (Program (NotBuilt fault))
    FailsToUpdate order input lines fault = FailsToRead (RefusesTypedStrict K V name) input fault

    -- why a command has no output for an input
    abbrev pub Fails : TypedCommand → List ℕ → TypedFault → Type 0
    Fails (Build source order heading) input fault = FailsToBuild source order heading input fault
    Fails (Set key value) input fault = FailsToSet input (string_bytes key, string_bytes value) fault
    Fails (Merge others) input fault = FailsToMerge input (map (λ file. file.items) others.items) fault
    Fails (Update order lines) input fault = FailsToUpdate order input lines.items fault
    Fails (Diff other) input fault = FailsToDiff input other.items fault
    Fails CheckStrict input fault = FailsToRead (RefusesTypedStrict K V name) input fault
    Fails (Get word form) input NoKey = IsNoText keys (string_bytes word)
    Fails (Range low high form) input NoLow = IsNoText keys (string_bytes low)
    Fails (Range low high form) input NoHigh = IsNoText keys (string_bytes high)
    Fails _ input fault = FailsToRead (RefusesTyped K V name) input fault

    -- a command has written its output; or it has failed by its cause, and has written nothing; or reading, memory or writing
    -- failed. Only a failed write may leave a part of the output
    abbrev pub Does : TypedCommand → Option (List ℕ) → Option (List ℕ) → Option (List ℕ) → Result ℕ TypedFault → Type 0
    Does command input old new (Ok status) =
        IfSome input (λ bytes. (text : List ℕ) × Outputs command bytes text status × Appends old new text)
    Does command input old new (Err (Program InputFailed)) = new ≡ old
    Does command input old new (Err (Program Memory)) = new ≡ old
    Does command input old new (Err (Program OutputFailed)) =
        IfSome input (λ bytes. (text : List ℕ) × (status : ℕ) × Outputs command bytes text status)
    Does command input old new (Err fault) = IfSome input (λ bytes. Fails command bytes fault) × (new ≡ old)

-- a command makes its output before it writes some, and doesn't write entry by entry
abbrev pub IsMadeFirst : TypedCommand → Type 0
IsMadeFirst (ListEntries form) = ⊥
IsMadeFirst (Range low high form) = ⊥
IsMadeFirst (Prefix prefix form) = ⊥
IsMadeFirst _ = Unit {0}
