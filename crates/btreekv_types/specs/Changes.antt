-- Changes of the entries of a typed map, in lines. The values that they put are texts.
use Rattle.std.specs.Prelude.{◌≡◌, ◌⊎◌, ℕ, ◌+◌, List, ◌∷◌, ◌++◌, length, map}
use Rattle.std.specs.List.{AllByRecursion}
use Rattle.std.specs.declared.cmp.Ordering.{Ordering}
use Rattle.rkyv_btree_update.specs.Updated.{changes_meant, updated}
use Rattle.rkyv_btree_update.specs.declared.change.Change.{Change}
use Rattle.rkyv_btree_update.specs.declared.change.Change.TheVariants.{Put, Delete}
use Rattle.btreearc_lines.specs.declared.fault.ProgramFault.{ProgramFault}
use Rattle.btreearc_lines.specs.declared.fault.ProgramFault.TheVariants.{Line, Memory}
use Rattle.btreekv_commands.specs.Changing.{AreChanges, IsBadChange, TextChange}
use Rattle.btreekv_commands.specs.Lines.{Entry}
use Rattle.btreekv_types.specs.Natives.{IsNoText, IsText}
use Rattle.btreekv_types.specs.Typed.{Items}
use Rattle.btreekv_types.specs.declared.fault.TypedFault.{TypedFault}
use Rattle.btreekv_types.specs.declared.fault.TypedFault.TheVariants.{Program}

-- what a change puts is the text of a value, or the change deletes
abbrev pub PutsText : {B : Type 0} → Items B → Change (List ℕ) → Type 0
PutsText values (Put text) = IsText values text
PutsText values Delete = Unit {0}

-- what a change puts is the text of no value
abbrev pub PutsNoText : {B : Type 0} → Items B → Change (List ℕ) → Type 0
PutsNoText values (Put text) = IsNoText values text
PutsNoText values Delete = ⊥

module _ {A B : Type 0} (keys : Items A) (values : Items B) where
  -- the key of a change is one of the type of keys, and so is what it puts of the type of values
  abbrev pub IsTypedChange : A × Change (List ℕ) → Type 0
  IsTypedChange c = keys.IsValue c.0 × PutsText values c.1

  -- the changes of lines, whose keys are these
  pub record AreTypedChanges (lines : List ℕ) (changes : List (A × Change (List ℕ))) : Type 0 where
    pub good : AllByRecursion IsTypedChange changes
    pub read : AreChanges lines (changes_meant keys.text (λ text. text) changes)

  -- an entry with its value as a text
  abbrev pub with_text : A × B → A × List ℕ
  with_text e = (e.0, values.text e.1)

  -- the texts of entries after changes, which are made in turn
  abbrev pub changed_texts : (A → A → Ordering) → List (A × B) → List (A × Change (List ℕ)) → List Entry
  changed_texts order entries changes = map (λ e. (keys.text e.0, e.1)) (updated order (map with_text entries) changes)

-- change n, counted from 1, is the first that is bad
pub record IsFirstBadChange (Good Bad : TextChange → Type 0) (changes : List TextChange) (n : ℕ) : Type 0 where
  pub front : List TextChange
  pub change : TextChange
  pub back : List TextChange
  pub parts : changes ≡ front ++ change ∷ back
  pub number : n ≡ length front + 1
  pub good : AllByRecursion Good front
  pub bad : Bad change

-- it is the first whose key is no text of the type of keys, or the first that puts no text of the type of values
abbrev pub IsFirstBadKey : {A C : Type 0} → Items A → Items C → List TextChange → ℕ → Type 0
IsFirstBadKey keys all_keys changes n = IsFirstBadChange (λ c. IsText keys c.0) (λ c. IsNoText all_keys c.0) changes n

abbrev pub IsFirstBadValue : {B D : Type 0} → Items B → Items D → List TextChange → ℕ → Type 0
IsFirstBadValue values all_values changes n = IsFirstBadChange (λ c. PutsText values c.1) (λ c. PutsNoText all_values c.1) changes n

-- an error of testing changes: the number of the first bad one; or there is no memory
abbrev pub IsTestFault : (ℕ → TypedFault) → (ℕ → Type 0) → TypedFault → Type 0
IsTestFault named IsFirst fault = (fault ≡ Program Memory) ⊎ ((n : ℕ) × (fault ≡ named n) × IsFirst n)

-- an error of reading changes: the first bad line; or there is no memory
abbrev pub IsLinesFault : List ℕ → ProgramFault → Type 0
IsLinesFault lines (Line n) = IsBadChange lines n
IsLinesFault lines Memory = Unit {0}
IsLinesFault lines _ = ⊥

-- an error of a call that fails for lack of memory alone, if its input is good
abbrev pub IsMemoryIf : Type 0 → TypedFault → Type 0
IsMemoryIf Good fault = Good → fault ≡ Program Memory
