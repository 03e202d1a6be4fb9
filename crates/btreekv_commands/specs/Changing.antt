-- Changes in lines: a key, a tab and a value put an entry, and a key alone deletes one.
use Rattle.std.specs.Prelude.{◌≡◌, ℕ, ◌+◌, Bool, true, false, List, [], ◌∷◌, ◌++◌, length, flat_map, map, IsUtf8, Option, String, string_bytes}
use Rattle.std.specs.Borrow.{Bor}
use Rattle.std.specs.Cmp.Lexicographic.{slice_cmp}
use Rattle.std.specs.Iterator.{Drains}
use Rattle.std.specs.Ordering.{nat_cmp}
use Rattle.rkyv_btree_format.specs.Increasing.{Increasing}
use Rattle.rkyv_btree_convert.specs.Maps.{last_wins}
use Rattle.rkyv_btree_update.specs.Updated.{change_meant}
use Rattle.rkyv_btree_update.specs.declared.change.Change.{Change}
use Rattle.rkyv_btree_update.specs.declared.change.Change.TheVariants.{Put, Delete}
use Rattle.btreearc_lines.specs.Grammar.{AreEach, lines}
use Rattle.btreekv_commands.specs.Lines.{IsEntry, Lacks, line_of}
use Rattle.btreekv_commands.specs.declared.update_fault.UpdateFault.{UpdateFault}
use Rattle.btreekv_commands.specs.declared.update_fault.UpdateFault.TheVariants.{Line, Memory}

-- a key, and what becomes of its entry
abbrev pub TextChange : Type 0
TextChange = List ℕ × Change (List ℕ)

-- what a borrowed key and change mean
abbrev pub lent_change : Bor (List ℕ) × Change (Bor (List ℕ)) → TextChange
lent_change c = (c.0.now, change_meant (λ value. value.now) c.1)

-- a line is a change
abbrev pub IsChange : List ℕ → TextChange → Type 0
IsChange line (key, Put value) = IsEntry line (key, value)
IsChange line (key, Delete) = (line ≡ key) × Lacks 9 key × IsUtf8 key

-- the changes of the lines of bytes, the last of which may lack its line feed
abbrev pub AreChanges : List ℕ → List TextChange → Type 0
AreChanges bytes changes = AreEach IsChange (lines bytes) changes

-- line n, counted from 1, is the first that is no change
pub record IsBadChange (bytes : List ℕ) (n : ℕ) : Type 0 where
  pub before : List (List ℕ)
  pub bad : List ℕ
  pub after : List (List ℕ)
  pub changes : List TextChange
  pub split : lines bytes ≡ before ++ bad ∷ after
  pub good : AreEach IsChange before changes
  pub no_change : (c : TextChange) → ¬ IsChange bad c
  pub number : n ≡ length before + 1

-- an error of reading changes: the first bad line, or there is no memory
abbrev pub IsChangeFault : List ℕ → UpdateFault → Type 0
IsChangeFault bytes (Line n) = IsBadChange bytes n
IsChangeFault bytes Memory = Unit {0}
IsChangeFault bytes _ = ⊥

-- the keys of changes increase, byte by byte
abbrev pub ChangesIncrease : List TextChange → Type 0
ChangesIncrease changes = Increasing (slice_cmp nat_cmp) changes

-- the changes that are made: those of the lines; or these sorted by key, and of equal keys the last
abbrev pub counted : Bool → List TextChange → List TextChange
counted false changes = changes
counted true changes = last_wins (slice_cmp nat_cmp) changes

-- a change's line as it is written
abbrev pub change_line : TextChange → List ℕ
change_line (key, Put value) = line_of (key, value)
change_line (key, Delete) = key ++ 10 ∷ []

abbrev pub changes_text : List TextChange → List ℕ
changes_text changes = flat_map change_line changes

-- a line is read back as this change: the key has no tab and no line feed, and the value no line feed; both are UTF-8, as archived
-- texts are
abbrev pub IsKeyOfLine : List ℕ → Type 0
IsKeyOfLine key = Lacks 9 key × Lacks 10 key × IsUtf8 key

abbrev pub IsReadBack : TextChange → Type 0
IsReadBack (key, Put value) = IsKeyOfLine key × Lacks 10 value × IsUtf8 value
IsReadBack (key, Delete) = IsKeyOfLine key

-- a text has become longer by the lines of all changes that an iterator's items mean
abbrev pub AppendsChanges : {S A Z : Type 0} → (S → Option A → S → Type 0) → (A → TextChange) → S → String Z → String Z → Type 0
AppendsChanges {S} {A} steps means start old new =
    (items : List A) × Drains steps start items × (string_bytes new ≡ string_bytes old ++ changes_text (map means items))
