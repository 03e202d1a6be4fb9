-- Which words name which command.
use Rattle.std.specs.Prelude.{◌≡◌, ℕ, List, [], ◌∷◌, String, string_bytes, codes}
use Rattle.std.specs.Global.{Global}
use Rattle.btreearc_lines.specs.Grammar.{IsNumber}
use Rattle.btreearc_lines.specs.declared.heading.Heading.{Heading}
use Rattle.btreearc_lines.specs.declared.heading.Heading.TheVariants.{Typed, Untyped}
use Rattle.btreearc_lines.specs.declared.command.Command.{Command}
use Rattle.btreearc_lines.specs.declared.command.Command.TheVariants.{Build, List as ListEntries, Check, Get, Range, Set, BuildStrict, CheckStrict, Migrate}

-- one word, and this
abbrev pub IsWord : List ℕ → List (String Global) → Type 0
IsWord text [] = ⊥
IsWord text (word ∷ []) = string_bytes word ≡ text
IsWord text (word ∷ other ∷ others) = ⊥

-- two words, this and a number
abbrev pub IsWordAndNumber : List ℕ → ℕ → List (String Global) → Type 0
IsWordAndNumber text n [] = ⊥
IsWordAndNumber text n (word ∷ []) = ⊥
IsWordAndNumber text n (word ∷ number ∷ []) = (string_bytes word ≡ text) × IsNumber (string_bytes number) n
IsWordAndNumber text n (word ∷ number ∷ other ∷ others) = ⊥

-- two words, these
abbrev pub AreWords : List ℕ → List ℕ → List (String Global) → Type 0
AreWords text second [] = ⊥
AreWords text second (word ∷ []) = ⊥
AreWords text second (word ∷ other ∷ []) = (string_bytes word ≡ text) × (string_bytes other ≡ second)
AreWords text second (word ∷ other ∷ another ∷ others) = ⊥

-- three words, this and two numbers
abbrev pub IsWordAndNumbers : List ℕ → ℕ → ℕ → List (String Global) → Type 0
IsWordAndNumbers text n m [] = ⊥
IsWordAndNumbers text n m (word ∷ []) = ⊥
IsWordAndNumbers text n m (word ∷ number ∷ []) = ⊥
IsWordAndNumbers text n m (word ∷ number ∷ other ∷ []) =
    (string_bytes word ≡ text) × IsNumber (string_bytes number) n × IsNumber (string_bytes other) m
IsWordAndNumbers text n m (word ∷ number ∷ other ∷ another ∷ others) = ⊥

-- a command that builds: this word, and a second one if there is to be no header
abbrev pub NamesBuild : List ℕ → List (String Global) → Heading → Type 0
NamesBuild text args Typed = IsWord text args
NamesBuild text args Untyped = AreWords text (codes "untyped") args

-- the words name this command
abbrev pub Names : List (String Global) → Command → Type 0
Names args (Build heading) = NamesBuild (codes "build") args heading
Names args ListEntries = IsWord (codes "list") args
Names args Check = IsWord (codes "check") args
Names args (Get key) = IsWordAndNumber (codes "get") key args
Names args (Range low high) = IsWordAndNumbers (codes "range") low high args
Names args (Set key value) = IsWordAndNumbers (codes "set") key value args
Names args (BuildStrict heading) = NamesBuild (codes "build-strict") args heading
Names args CheckStrict = IsWord (codes "check-strict") args
Names args Migrate = IsWord (codes "migrate") args

-- the words name no command
abbrev pub IsNoCommand : List (String Global) → Type 0
IsNoCommand args = (command : Command) → Names args command → ⊥
