-- What each command does with known input, and when it fails.
use Rattle.std.specs.Prelude.{◌≡◌, ℕ, List, [], ◌∷◌, ◌++◌, ◌&&◌, ◌↔◌, Contains, nat_le, length, map, filter, Option, Some, None}
use Rattle.std.specs.Prelude.{IfSome, MatchOption, Result, Ok, Err, codes, decimal}
use Rattle.std.specs.Io.KnownBytes.{Appends}
use Rattle.std.specs.Ordering.{nat_cmp}
use Rattle.rkyv_btree_format.specs.Increasing.{Increasing}
use Rattle.rkyv_btree_walk.specs.Bounds.{IsRun}
use Rattle.rkyv_btree_convert.specs.Maps.{last_wins}
use Rattle.rkyv_btree_walk.specs.Search.{OrderedBy}
use Rattle.btreearc_commands.specs.Archive.{archive_of, IsArchived, IsUnbuilt, IsUnbuiltInOrder}
use Rattle.btreearc_lines.specs.Headings.{IsHeaded, IsMisheaded}
use Rattle.btreearc_lines.specs.declared.heading.Heading.{Heading}
use Rattle.btreearc_lines.specs.Grammar.{IsLines, BadLine, text_of}
use Rattle.btreearc_commands.specs.Opening.{IsArchive, IsInput, numbers_name, RefusesArchive, RefusesStrictArchive, found_in_archive, place_in_archive}
use Rattle.btreearc_commands.specs.Setting.{IsSet}
use Rattle.btreearc_lines.specs.declared.fault.ProgramFault.{ProgramFault}
use Rattle.btreearc_lines.specs.declared.fault.ProgramFault.TheVariants.{Line, Refused, Misheaded, NotBuilt, InputFailed, OutputFailed, Memory}

-- `build` has written the archive of the input's lines, which they have, and which is accepted and means them; or it names
-- the fault and has written nothing, except where a write failed
abbrev pub Builds : Heading → Option (List ℕ) → Option (List ℕ) → Option (List ℕ) → Result ℕ ProgramFault → Type 0
Builds heading input old new (Ok status) =
    (status ≡ 0)
    × IfSome input (λ bytes. (entries : List (ℕ × ℕ)) × IsLines bytes entries × IsArchived heading (archive_of heading entries) entries
    × Appends old new (archive_of heading entries))
Builds heading input old new (Err (Line n)) = IfSome input (λ bytes. BadLine bytes n) × (new ≡ old)
Builds heading input old new (Err (NotBuilt fault)) =
    IfSome input (λ bytes. (entries : List (ℕ × ℕ)) × IsLines bytes entries × IsUnbuilt heading entries fault) × (new ≡ old)
Builds heading input old new (Err InputFailed) = new ≡ old
Builds heading input old new (Err Memory) = new ≡ old
Builds heading input old new (Err OutputFailed) = IfSome input (λ bytes. (entries : List (ℕ × ℕ)) × IsLines bytes entries)
Builds heading input old new (Err _) = ⊥

-- a command that reads an archive has failed: its input is refused, or reading, memory or writing failed. It has written
-- nothing, except where a write failed
abbrev pub FailsOnArchive : Option (List ℕ) → Option (List ℕ) → Option (List ℕ) → ProgramFault → Type 0
FailsOnArchive input old new (Refused refusal) = IfSome input (λ bytes. RefusesArchive bytes refusal) × (new ≡ old)
FailsOnArchive input old new (Misheaded fault) = IfSome input (λ bytes. IsMisheaded numbers_name bytes fault) × (new ≡ old)
FailsOnArchive input old new InputFailed = new ≡ old
FailsOnArchive input old new Memory = new ≡ old
FailsOnArchive input old new OutputFailed = IfSome input (λ bytes. (entries : List (ℕ × ℕ)) × IsArchive bytes entries)
FailsOnArchive input old new _ = ⊥

-- `list` has written the lines of the input's archive, or it has failed
abbrev pub Lists : Option (List ℕ) → Option (List ℕ) → Option (List ℕ) → Result ℕ ProgramFault → Type 0
Lists input old new (Ok status) =
    (status ≡ 0) × IfSome input (λ bytes. (entries : List (ℕ × ℕ)) × IsInput bytes entries × Appends old new (text_of entries))
Lists input old new (Err fault) = FailsOnArchive input old new fault

-- the line of an archive of so many entries
abbrev pub total : ℕ → List ℕ
total count = codes "ok " ++ (decimal count ++ (codes " entries" ++ 10 ∷ []))

-- `check` has written how many entries the input's archive has, or it has failed
abbrev pub Checks : Option (List ℕ) → Option (List ℕ) → Option (List ℕ) → Result ℕ ProgramFault → Type 0
Checks input old new (Ok status) =
    (status ≡ 0) × IfSome input (λ bytes. (entries : List (ℕ × ℕ)) × IsInput bytes entries × Appends old new (total (length entries)))
Checks input old new (Err fault) = FailsOnArchive input old new fault

-- what is printed of what a search has found: a value by its line, with status 0, and nothing, with status 1
abbrev pub PrintsValue : Option (ℕ × ℕ) → Option (List ℕ) → Option (List ℕ) → ℕ → Type 0
PrintsValue (Some entry) old new status = (status ≡ 0) × Appends old new (decimal entry.1 ++ 10 ∷ [])
PrintsValue None old new status = (status ≡ 1) × (new ≡ old)

-- `get` has printed what a search for the key finds in the input's archive, or it has failed
abbrev pub Gets : ℕ → Option (List ℕ) → Option (List ℕ) → Option (List ℕ) → Result ℕ ProgramFault → Type 0
Gets key input old new (Ok status) =
    IfSome input (λ bytes. (entries : List (ℕ × ℕ)) × IsInput bytes entries × PrintsValue (found_in_archive bytes key) old new status)
Gets key input old new (Err fault) = FailsOnArchive input old new fault

-- the found entries stand in the list one after the other; and where along the list come keys before a bound, then keys
-- equal to it, then keys past it, for both bounds, they are all entries whose keys are from `low` to `high`
pub record IsBetween (low high : ℕ) (entries found : List (ℕ × ℕ)) : Type 0 where
  pub run : IsRun found entries
  pub all : OrderedBy (λ e. nat_cmp low e.0) entries → OrderedBy (λ e. nat_cmp high e.0) entries
      → found ≡ filter (λ e. nat_le low e.0 && nat_le e.0 high) entries

-- `range` has written the lines of the entries of the input's archive from the key `low` to the key `high`, or it has
-- failed
abbrev pub Ranges : ℕ → ℕ → Option (List ℕ) → Option (List ℕ) → Option (List ℕ) → Result ℕ ProgramFault → Type 0
Ranges low high input old new (Ok status) =
    (status ≡ 0)
    × IfSome input (λ bytes.
    (entries found : List (ℕ × ℕ)) × IsInput bytes entries × IsBetween low high entries found × Appends old new (text_of found))
Ranges low high input old new (Err fault) = FailsOnArchive input old new fault

-- the archive in which the entry that a search for the key finds has this value is written, with status 0; where none is
-- found nothing is written, with status 1. Where along the list come keys before the key, then keys equal to it, then keys
-- past it, one is found exactly if the key is among them
pub record IsSetOut (key value : ℕ) (entries : List (ℕ × ℕ)) (bytes : List ℕ) (old new : Option (List ℕ)) (status : ℕ) : Type 0 where
  pub written : MatchOption (place_in_archive bytes key) ((status ≡ 1) × (new ≡ old))
      (λ place. (status ≡ 0) × ((made : List ℕ) × IsSet key value entries bytes place made × Appends old new made))
  pub complete : OrderedBy (λ e. nat_cmp key e.0) entries → ((status ≡ 0) ↔ Contains (map (λ e. e.0) entries) key)

-- `set` has written the input's archive with this value of the key, or it has failed
abbrev pub Sets : ℕ → ℕ → Option (List ℕ) → Option (List ℕ) → Option (List ℕ) → Result ℕ ProgramFault → Type 0
Sets key value input old new (Ok status) =
    IfSome input (λ bytes. (entries : List (ℕ × ℕ)) × IsInput bytes entries × IsSetOut key value entries bytes old new status)
Sets key value input old new (Err fault) = FailsOnArchive input old new fault

-- `build-strict` has written the archive of the input's lines, whose keys increase; or it names the fault and has written
-- nothing, except where a write failed
abbrev pub BuildsStrict : Heading → Option (List ℕ) → Option (List ℕ) → Option (List ℕ) → Result ℕ ProgramFault → Type 0
BuildsStrict heading input old new (Ok status) =
    (status ≡ 0)
    × IfSome input (λ bytes. (entries : List (ℕ × ℕ)) × IsLines bytes entries × Increasing nat_cmp entries
    × IsArchived heading (archive_of heading entries) entries × Appends old new (archive_of heading entries))
BuildsStrict heading input old new (Err (Line n)) = IfSome input (λ bytes. BadLine bytes n) × (new ≡ old)
BuildsStrict heading input old new (Err (NotBuilt fault)) =
    IfSome input (λ bytes. (entries : List (ℕ × ℕ)) × IsLines bytes entries × IsUnbuiltInOrder heading entries fault) × (new ≡ old)
BuildsStrict heading input old new (Err InputFailed) = new ≡ old
BuildsStrict heading input old new (Err Memory) = new ≡ old
BuildsStrict heading input old new (Err OutputFailed) = IfSome input (λ bytes. (entries : List (ℕ × ℕ)) × IsLines bytes entries)
BuildsStrict heading input old new (Err _) = ⊥

-- `check-strict` has written how many entries the input's archive has, and their keys increase; or it has failed
abbrev pub ChecksStrict : Option (List ℕ) → Option (List ℕ) → Option (List ℕ) → Result ℕ ProgramFault → Type 0
ChecksStrict input old new (Ok status) =
    (status ≡ 0) × IfSome input (λ bytes. (entries : List (ℕ × ℕ)) × IsInput bytes entries × Increasing nat_cmp entries × Appends old new (total (length entries)))
ChecksStrict input old new (Err (Refused refusal)) = IfSome input (λ bytes. RefusesStrictArchive bytes refusal) × (new ≡ old)
ChecksStrict input old new (Err fault) = FailsOnArchive input old new fault

-- the entries of a std map in which the last value of each key counts
abbrev pub last_values : List (ℕ × ℕ) → List (ℕ × ℕ)
last_values entries = last_wins nat_cmp entries

-- `migrate` has written the archive of the last values of the input's archive, with a header if the input has one; or it has failed
abbrev pub Migrates : Option (List ℕ) → Option (List ℕ) → Option (List ℕ) → Result ℕ ProgramFault → Type 0
Migrates input old new (Ok status) =
    (status ≡ 0)
    × IfSome input (λ bytes. (entries : List (ℕ × ℕ)) × (heading : Heading) × IsHeaded numbers_name bytes heading × IsArchive bytes entries
    × IsArchived heading (archive_of heading (last_values entries)) (last_values entries) × Appends old new (archive_of heading (last_values entries)))
Migrates input old new (Err (NotBuilt fault)) =
    IfSome input (λ bytes. (entries : List (ℕ × ℕ)) × (heading : Heading) × IsHeaded numbers_name bytes heading × IsArchive bytes entries
    × IsUnbuilt heading (last_values entries) fault) × (new ≡ old)
Migrates input old new (Err fault) = FailsOnArchive input old new fault
