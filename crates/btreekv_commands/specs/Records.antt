-- Records of a key and a value, which aren't plain lines.
use Rattle.std.specs.Prelude.{◌≡◌, ℕ, ◌+◌, ◌==◌, if◌then◌else◌, List, [], ◌∷◌, ◌++◌, length, IsUtf8}
use Rattle.btreearc_lines.specs.Grammar.{begun}
use Rattle.btreearc_lines.specs.declared.fault.ProgramFault.{ProgramFault}
use Rattle.btreearc_lines.specs.declared.fault.ProgramFault.TheVariants.{Line, Memory}
use Rattle.btreekv_commands.specs.Escapes.{escape}
use Rattle.btreekv_commands.specs.JsonRecords.{IsJsonEntry}
use Rattle.btreekv_commands.specs.Lines.{Entry, IsEntry, Lacks}
use Rattle.btreekv_commands.specs.declared.records.Records.{Records}
use Rattle.btreekv_commands.specs.declared.records.Records.TheVariants.{Escaped, Null, Json}

-- the parts of bytes that a byte ends; the last one may lack it
abbrev pub records : ℕ → List ℕ → List (List ℕ)
records end [] = []
records end (c ∷ cs) = if c == end then [] ∷ records end cs else begun c (records end cs)

-- the byte that ends a record
abbrev pub end_of : Records → ℕ
end_of Escaped = 10
end_of Null = 0
end_of Json = 10

-- the escapes of a key and of a value with a tab between
pub record IsEscaped (record_ : List ℕ) (x : Entry) : Type 0 where
  pub spelled : record_ ≡ escape x.0 ++ 9 ∷ escape x.1
  pub key : IsUtf8 x.0
  pub value : IsUtf8 x.1

abbrev pub IsRecord : Records → List ℕ → Entry → Type 0
IsRecord Escaped = IsEscaped
IsRecord Null = IsEntry
IsRecord Json = IsJsonEntry

-- record by record
abbrev pub Match : (List ℕ → Entry → Type 0) → List (List ℕ) → List Entry → Type 0
Match R [] [] = Unit {0}
Match R [] (x ∷ xs) = ⊥
Match R (r ∷ rs) [] = ⊥
Match R (r ∷ rs) (x ∷ xs) = R r x × Match R rs xs

-- the entries of the records of bytes
abbrev pub AreRecords : Records → List ℕ → List Entry → Type 0
AreRecords form bytes entries = Match (IsRecord form) (records (end_of form) bytes) entries

-- record n, counted from 1, is the first that is no entry
pub record IsBadRecord (form : Records) (bytes : List ℕ) (n : ℕ) : Type 0 where
  pub before : List (List ℕ)
  pub bad : List ℕ
  pub after : List (List ℕ)
  pub entries : List Entry
  pub split : records (end_of form) bytes ≡ before ++ bad ∷ after
  pub good : Match (IsRecord form) before entries
  pub no_entry : (x : Entry) → ¬ IsRecord form bad x
  pub number : n ≡ length before + 1

-- an error of reading records: the first bad one, or there is no memory
abbrev pub IsRecordFault : Records → List ℕ → ProgramFault → Type 0
IsRecordFault form bytes (Line n) = IsBadRecord form bytes n
IsRecordFault form bytes Memory = Unit {0}
IsRecordFault form bytes _ = ⊥

abbrev pub AreUtf8 : Entry → Type 0
AreUtf8 e = IsUtf8 e.0 × IsUtf8 e.1

-- an entry that a record with a zero byte at its end can have
pub record IsNullFree (e : Entry) : Type 0 where
  pub utf8 : AreUtf8 e
  pub no_tab : Lacks 9 e.0
  pub no_zero : Lacks 0 e.0 × Lacks 0 e.1
