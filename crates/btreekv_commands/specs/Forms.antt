-- How entries and values are written.
use Rattle.std.specs.Prelude.{◌≡◌, ℕ, List, [], ◌∷◌, ◌++◌, Option, codes, flat_map, map}
use Rattle.std.specs.Iterator.{Drains}
use Rattle.btreekv_commands.specs.Escapes.{escape}
use Rattle.btreekv_commands.specs.Json.{json_string}
use Rattle.btreekv_commands.specs.Lines.{Entry, line_of}
use Rattle.btreekv_commands.specs.declared.forms.Form.{Form}
use Rattle.btreekv_commands.specs.declared.forms.Form.TheVariants.{Plain, Escaped, Null, Json}

-- a value with what ends it
abbrev pub value_line : Form → List ℕ → List ℕ
value_line Plain value = value ++ 10 ∷ []
value_line Escaped value = escape value ++ 10 ∷ []
value_line Null value = value ++ 0 ∷ []
value_line Json value = json_string value ++ 10 ∷ []

-- an entry with what ends it
abbrev pub entry_line : Form → Entry → List ℕ
entry_line Plain e = line_of e
entry_line Escaped e = line_of (escape e.0, escape e.1)
entry_line Null e = e.0 ++ (9 ∷ e.1 ++ 0 ∷ [])
entry_line Json e = codes "{\"key\":" ++ (json_string e.0 ++ (codes ",\"value\":" ++ (json_string e.1 ++ codes "}\n")))

abbrev pub text_in : Form → List Entry → List ℕ
text_in form entries = flat_map (entry_line form) entries

-- bytes have become longer by all entries that an iterator's items show
abbrev pub AppendsEntries : {S A : Type 0} → Form → (S → Option A → S → Type 0) → (A → Entry) → S → List ℕ → List ℕ → Type 0
AppendsEntries {S} {A} form steps shows start old new =
    (items : List A) × Drains steps start items × (new ≡ old ++ text_in form (map shows items))
