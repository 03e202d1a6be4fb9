-- Lists of entries as they are written.
use Rattle.std.specs.Prelude.{◌≡◌, ℕ, Bool, true, false, List, [], ◌∷◌, ◌++◌, Option, filter, map}
use Rattle.std.specs.Iterator.{Drains}
use Rattle.btreekv_commands.specs.CsvRecords.{entry_row, header, rows_text, table_text}
use Rattle.btreekv_commands.specs.Forms.{entry_line, text_in}
use Rattle.btreekv_commands.specs.Json.{json_line, member, members}
use Rattle.btreekv_commands.specs.Lines.{Entry}
use Rattle.btreekv_commands.specs.declared.forms.Form.{Form}
use Rattle.rkyv_btree_strict.specs.Prefix.{begins_with}
use Rattle.btreekv_types.specs.declared.list_form.ListForm.{ListForm}
use Rattle.btreekv_types.specs.declared.list_form.ListForm.TheVariants.{Lines, Object, Table}

-- a list of entries as it is written: each entry with what ends it, the line of a JSON object, or a table
abbrev pub list_text : ListForm → List Entry → List ℕ
list_text (Lines form) entries = text_in form entries
list_text Object entries = json_line entries
list_text (Table table) entries = table_text table entries

abbrev pub is_none : List Entry → Bool
is_none [] = true
is_none (e ∷ es) = false

-- what comes before a member
abbrev pub comma : Bool → List ℕ
comma true = []
comma false = 44 ∷ []

-- what a list begins with, one of its entries, all of them, and what ends it
abbrev pub list_start : ListForm → List ℕ
list_start (Lines form) = []
list_start Object = 123 ∷ []
list_start (Table table) = entry_row table header

abbrev pub list_item : ListForm → Bool → Entry → List ℕ
list_item (Lines form) is_first e = entry_line form e
list_item Object is_first e = comma is_first ++ member e
list_item (Table table) is_first e = entry_row table e

abbrev pub list_body : ListForm → List Entry → List ℕ
list_body (Lines form) entries = text_in form entries
list_body Object entries = members entries
list_body (Table table) entries = rows_text table entries

abbrev pub list_end : ListForm → List ℕ
list_end Object = 125 ∷ 10 ∷ []
list_end _ = []

-- the entries whose keys begin with a text, as they are written
abbrev pub prefixed_text : List ℕ → Form → List Entry → List ℕ
prefixed_text prefix form entries = text_in form (filter (begins_with prefix) entries)

-- texts have become longer by the entries that all items of an iterator show
abbrev pub AppendsShown : {S A : Type 0} → (S → Option A → S → Type 0) → (A → Entry) → S → (old new : List Entry) → Type 0
AppendsShown {S} {A} steps shows start old new = (items : List A) × Drains steps start items × (new ≡ old ++ map shows items)
