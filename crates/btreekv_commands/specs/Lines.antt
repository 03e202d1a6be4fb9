-- Lines of a key, a tab and a value.
use Rattle.std.specs.Prelude.{◌≡◌, ◌≢◌, ℕ, ◌+◌, ◌<◌, List, [], ◌∷◌, ◌++◌, length, IsUtf8, slice_index}
use Rattle.std.specs.Str.{IsValidUpTo}
use Rattle.btreearc_lines.specs.Grammar.{lines}
use Rattle.btreearc_lines.specs.declared.fault.ProgramFault.{ProgramFault}
use Rattle.btreearc_lines.specs.declared.fault.ProgramFault.TheVariants.{Line, Memory}

abbrev pub Entry : Type 0
Entry = List ℕ × List ℕ

-- a byte isn't among these
abbrev pub Lacks : ℕ → List ℕ → Type 0
Lacks byte xs = (k : ℕ) → k < length xs → slice_index xs k ≢ byte

-- a key and a value with a tab between, of which the key has none
pub record IsEntry (line : List ℕ) (x : Entry) : Type 0 where
  pub spelled : line ≡ x.0 ++ 9 ∷ x.1
  pub tab : Lacks 9 x.0
  pub key : IsUtf8 x.0
  pub value : IsUtf8 x.1

-- line by line
abbrev pub AreEntries : List (List ℕ) → List Entry → Type 0
AreEntries [] [] = Unit {0}
AreEntries [] (x ∷ xs) = ⊥
AreEntries (line ∷ others) [] = ⊥
AreEntries (line ∷ others) (x ∷ xs) = IsEntry line x × AreEntries others xs

-- the entries of the lines of bytes, the last of which may lack its line feed
abbrev pub AreLines : List ℕ → List Entry → Type 0
AreLines bytes entries = AreEntries (lines bytes) entries

-- line n, counted from 1, is the first that is no entry
pub record IsBadLine (bytes : List ℕ) (n : ℕ) : Type 0 where
  pub before : List (List ℕ)
  pub bad : List ℕ
  pub after : List (List ℕ)
  pub entries : List Entry
  pub split : lines bytes ≡ before ++ bad ∷ after
  pub good : AreEntries before entries
  pub no_entry : (x : Entry) → ¬ IsEntry bad x
  pub number : n ≡ length before + 1

-- byte n, counted from 1, is the first of a line that isn't UTF-8
pub record IsBadByte (line : List ℕ) (n : ℕ) : Type 0 where
  pub at : ℕ
  pub number : n ≡ at + 1
  pub valid : IsValidUpTo line at

-- an error of reading lines: the first bad line, or there is no memory
abbrev pub IsLineFault : List ℕ → ProgramFault → Type 0
IsLineFault bytes (Line n) = IsBadLine bytes n
IsLineFault bytes Memory = Unit {0}
IsLineFault bytes _ = ⊥

-- an entry's line as it is written
abbrev pub line_of : Entry → List ℕ
line_of x = x.0 ++ (9 ∷ x.1 ++ 10 ∷ [])
