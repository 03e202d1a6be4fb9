-- Native entries of entries of texts, and why there are none.
use Rattle.std.specs.Prelude.{◌≡◌, ℕ, ◌+◌, List, ◌∷◌, ◌++◌, length}
use Rattle.btreekv_commands.specs.Lines.{Entry}
use Rattle.btreearc_lines.specs.declared.fault.ProgramFault.TheVariants.{Memory}
use Rattle.btreekv_types.specs.declared.fault.TypedFault.{TypedFault}
use Rattle.btreekv_types.specs.declared.fault.TypedFault.TheVariants.{Program, BadKey, BadValue}
use Rattle.btreekv_types.specs.Typed.{AreTyped, Items}

-- a text is that of no value of a type
abbrev pub IsNoText : {Value : Type 0} → Items Value → List ℕ → Type 0
IsNoText {Value} items text = (v : Value) → items.IsValue v → ¬ (items.text v ≡ text)

-- it is that of some value
abbrev pub IsText : {Value : Type 0} → Items Value → List ℕ → Type 0
IsText {Value} items text = (v : Value) × items.IsValue v × (items.text v ≡ text)

-- entry n of texts, counted from 1, is the first that isn't of the types, for this reason
pub record IsFirstBad {A B : Type 0} (keys : Items A) (values : Items B) (IsBad : Entry → Type 0) (texts : List Entry) (n : ℕ) : Type 0 where
  pub front : List Entry
  pub entry : Entry
  pub back : List Entry
  pub parts : texts ≡ front ++ entry ∷ back
  pub number : n ≡ length front + 1
  pub before : List (A × B)
  pub good : AreTyped keys values front before
  pub bad : IsBad entry

-- why not all entries of texts have such values: the first that has none, for which it is told of all values; or there is no memory
abbrev pub IsUnread : {A B C D : Type 0} → Items A → Items B → Items C → Items D → List Entry → TypedFault → Type 0
IsUnread keys values all_keys all_values texts (BadKey n) = IsFirstBad keys values (λ e. IsNoText all_keys e.0) texts n
IsUnread keys values all_keys all_values texts (BadValue n) = IsFirstBad keys values (λ e. IsText keys e.0 × IsNoText all_values e.1) texts n
IsUnread keys values all_keys all_values texts (Program Memory) = Unit {0}
IsUnread keys values all_keys all_values texts _ = ⊥

-- the first whose key is no text of the type of keys, or else its value none of the type of values; or there is no memory
abbrev pub IsNativeFault : {A B : Type 0} → Items A → Items B → List Entry → TypedFault → Type 0
IsNativeFault keys values texts fault = IsUnread keys values keys values texts fault
