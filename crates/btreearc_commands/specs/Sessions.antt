-- What a command makes of what another has written.
use Rattle.std.specs.Prelude.{◌≡◌, ℕ, List, ◌++◌, map, ◌==◌, if◌then◌else◌, Option, Some, Result, Ok, Err}
use Rattle.std.specs.Io.KnownBytes.{Appends}
use Rattle.std.specs.List.Sorted.{IsStrictlySortedBy}
use Rattle.std.specs.Ordering.{nat_cmp}
use Rattle.rkyv_btree_writer.specs.declared.fault.Fault.TheVariants.{Writer, Memory as NoRoom}
use Rattle.btreearc_commands.specs.Commands.{Builds, Sets, BuildsStrict, Migrates}
use Rattle.btreearc_lines.specs.declared.heading.Heading.{Heading}
use Rattle.btreearc_lines.specs.Grammar.{IsLines}
use Rattle.btreearc_lines.specs.declared.fault.ProgramFault.{ProgramFault}
use Rattle.btreearc_lines.specs.declared.fault.ProgramFault.TheVariants.{NotBuilt, InputFailed, OutputFailed, Memory}

-- `build` has written this archive, after what was there before, for a text whose lines are these entries
pub record IsBuilt (heading : Heading) (text : List ℕ) (entries : List (ℕ × ℕ)) (archive : List ℕ) : Type 0 where
  pub lines : IsLines text entries
  pub before : List ℕ
  pub built : Builds heading (Some text) (Some before) (Some (before ++ archive)) (Ok 0)

-- `set` has found the key in this archive, and has written that one, after what was there before
pub record IsSetIn (key value : ℕ) (archive made : List ℕ) : Type 0 where
  pub before : List ℕ
  pub set : Sets key value (Some archive) (Some before) (Some (before ++ made)) (Ok 0)

-- `build-strict` has written this archive, after what was there before, for a text whose lines are these entries
pub record IsBuiltStrict (heading : Heading) (text : List ℕ) (entries : List (ℕ × ℕ)) (archive : List ℕ) : Type 0 where
  pub lines : IsLines text entries
  pub before : List ℕ
  pub built : BuildsStrict heading (Some text) (Some before) (Some (before ++ archive)) (Ok 0)

-- `migrate` has made that archive of this one, and has written it after what was there before
pub record IsMigratedTo (archive made : List ℕ) : Type 0 where
  pub before : List ℕ
  pub migrated : Migrates (Some archive) (Some before) (Some (before ++ made)) (Ok 0)

-- a run has written such bytes and no others, with this status; or reading or a growth failed, and it has written nothing;
-- or writing failed
abbrev pub Writes : (List ℕ → Type 0) → ℕ → Option (List ℕ) → Option (List ℕ) → Result ℕ ProgramFault → Type 0
Writes Are status old new (Ok code) = (code ≡ status) × ((bytes : List ℕ) × Are bytes × Appends old new bytes)
Writes Are status old new (Err InputFailed) = new ≡ old
Writes Are status old new (Err Memory) = new ≡ old
Writes Are status old new (Err (NotBuilt (Writer error))) = new ≡ old
Writes Are status old new (Err (NotBuilt (NoRoom error))) = new ≡ old
Writes Are status old new (Err OutputFailed) = Unit {0}
Writes Are status old new (Err _) = ⊥

-- what is known of a run: the output before and after it, and its result
abbrev pub Runs : Type 1
Runs = Option (List ℕ) → Option (List ℕ) → Result ℕ ProgramFault → Type 0

-- each such run writes so, whatever was written before
abbrev pub AlwaysWrites : Runs → (List ℕ → Type 0) → ℕ → Type 0
AlwaysWrites Run Are status = (old new : Option (List ℕ)) (answer : Result ℕ ProgramFault) → Run old new answer → Writes Are status old new answer

-- and these very bytes
abbrev pub AlwaysPrints : Runs → List ℕ → ℕ → Type 0
AlwaysPrints Run text status = AlwaysWrites Run (λ bytes. bytes ≡ text) status

-- the keys of entries; that they strictly increase; and the entries with this value of the key
abbrev pub keys : List (ℕ × ℕ) → List ℕ
keys entries = map (λ e. e.0) entries

abbrev pub KeysIncrease : List (ℕ × ℕ) → Type 0
KeysIncrease entries = IsStrictlySortedBy nat_cmp (keys entries)

abbrev pub with_value : ℕ → ℕ → List (ℕ × ℕ) → List (ℕ × ℕ)
with_value key value entries = map (λ e. if e.0 == key then (key, value) else e) entries
