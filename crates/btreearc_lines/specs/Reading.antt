-- What reading from the left finds.
use Rattle.std.specs.Prelude.{◌≡◌, ℕ, ◌+◌, ◌<◌, ◌≤◌, Bool, true, false, List, [], ◌∷◌, ◌++◌, length, take, Option, Some, None, IfSome, Result, Ok, Err}
use Rattle.std.specs.Io.KnownBytes.{Keeps}
use Rattle.btreearc_lines.specs.Faults.{IsReadFault}
use Rattle.btreearc_lines.specs.Grammar.{lines, AreDigits, IsDigit, IsEntry, IsNumber, value_after}
use Rattle.btreearc_lines.specs.declared.entries.NextLine.{NextLine}
use Rattle.btreearc_lines.specs.declared.entries.NextLine.TheVariants.{Entry, Bad, End}
use Rattle.btreearc_lines.specs.declared.fault.ProgramFault.{ProgramFault}

-- no digit stands first
abbrev pub NoDigitFirst : List ℕ → Type 0
NoDigitFirst [] = Unit {0}
NoDigitFirst (c ∷ cs) = IsDigit c → ⊥

-- no more than ten bytes at the front are digits with this value
pub record ReadDigits (bytes : List ℕ) (len value : ℕ) : Type 0 where
  pub within : len ≤ length bytes
  pub few : len ≤ 10
  pub digits : AreDigits (take len bytes)
  pub value_is : value_after 0 (take len bytes) ≡ value

-- ten, or the number of all bytes if they are fewer
pub record IsMost (bytes : List ℕ) (most : ℕ) : Type 0 where
  pub within : most ≤ length bytes
  pub few : most ≤ 10
  pub all : most < 10 → length bytes ≡ most

-- all digits at the front are a number, and rest is after them
pub record NumberFirst (bytes : List ℕ) (n : ℕ) (rest : List ℕ) : Type 0 where
  pub digits : List ℕ
  pub spelled : bytes ≡ digits ++ rest
  pub is : IsNumber digits n
  pub ends : NoDigitFirst rest

-- two numbers with one space between are at the front, and rest is after them
pub record PairFirst (bytes : List ℕ) (x : ℕ × ℕ) (rest : List ℕ) : Type 0 where
  pub space : List ℕ
  pub after_space : List ℕ
  pub key : NumberFirst bytes x.0 space
  pub one_space : space ≡ 32 ∷ after_space
  pub value : NumberFirst after_space x.1 rest

-- of known bytes the first line was read, and the rest is left; or there is no line
abbrev pub ReadsLine : Option (List ℕ) → Bool → List ℕ → Option (List ℕ) → Type 0
ReadsLine None is_line line new = Unit {0}
ReadsLine (Some bytes) false line new = bytes ≡ []
ReadsLine (Some bytes) true line None = ⊥
ReadsLine (Some bytes) true line (Some rest) = lines bytes ≡ line ∷ lines rest

-- of known bytes the first line was taken, of which this holds
abbrev pub TakesLine : (List ℕ → Type 0) → Option (List ℕ) → Option (List ℕ) → Type 0
TakesLine Is None new = Unit {0}
TakesLine Is (Some bytes) None = ⊥
TakesLine Is (Some bytes) (Some rest) = (line : List ℕ) × (lines bytes ≡ line ∷ lines rest) × Is line

-- a call of an iterator over so many lines of a reader: it gives the item of the next, or reading has failed; or all were given
abbrev pub GivesItem : {S X : Type 0} → (List ℕ → X → Type 0) → (S → ℕ) → (S → Option (List ℕ)) → S → Option (Result X ProgramFault) → S → Type 0
GivesItem Is left known s None t = left s ≡ 0
GivesItem Is left known s (Some (Ok x)) t = (left s ≡ left t + 1) × TakesLine (λ line. Is line x) (known s) (known t)
GivesItem Is left known s (Some (Err fault)) t = IsReadFault fault

-- of known bytes the first line was taken, which is an entry; or nothing was taken
abbrev pub TakesAtHand : {E : Type 0} → Option (List ℕ) → Result (Option (ℕ × ℕ)) E → Option (List ℕ) → Type 0
TakesAtHand old (Ok (Some x)) new = TakesLine (λ line. IsEntry line x) old new
TakesAtHand old (Ok None) new = Keeps old new
TakesAtHand old (Err error) new = Keeps old new

-- of known bytes the first line was taken, which is an entry, or is none; or there is no line
abbrev pub ReadsNext : Option (List ℕ) → NextLine → Option (List ℕ) → Type 0
ReadsNext old (Entry x) new = TakesLine (λ line. IsEntry line x) old new
ReadsNext old Bad new = TakesLine (λ line. (x : ℕ × ℕ) → ¬ IsEntry line x) old new
ReadsNext old End new = IfSome old (λ bytes. bytes ≡ [])
