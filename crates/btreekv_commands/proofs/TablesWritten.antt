-- The text of a table, one more record at a time.
use Rattle.std.proofs.Common.{◌≡◌, ℕ, List, [], ◌∷◌, ◌++◌, map, flat_map, sym, ap, subst, ◌∙◌, append_assoc}
use Rattle.std.proofs.lemmas.List.{map_push, append-nil}
use Rattle.std.specs.Prelude.{Vec}
use Rattle.std.specs.declared.alloc.Global.{Global}
use Rattle.csv.specs.declared.writer.Writer.{Writer}
use Rattle.btreekv_commands.specs.CsvRecords.{HasWritten, entry_row, header, rows_text, table_text}
use Rattle.btreekv_commands.specs.Lines.{Entry}
use Rattle.btreekv_commands.specs.declared.csv_records.Table.{Table}

flat_push : (f : Entry → List ℕ) (xs : List Entry) (x : Entry) → flat_map f (xs ++ x ∷ []) ≡ flat_map f xs ++ f x
flat_push f [] x = append-nil (f x)
flat_push f (y ∷ ys) x = ap (λ (z : List ℕ). f y ++ z) (flat_push f ys x) ∙ sym (append_assoc (f y) (flat_map f ys) (f x))

pub rows_more : (table : Table) {X : Type 0} (means : X → Entry) (items : List X) (x : X) (key value : List ℕ) → key ≡ (means x).0 → value ≡ (means x).1
    → rows_text table (map means items) ++ entry_row table (key, value) ≡ rows_text table (map means (items ++ x ∷ []))
rows_more table means items x key value key_is value_is =
    let row : entry_row table (key, value) ≡ entry_row table (means x) = ap (λ k. entry_row table (k, value)) key_is ∙ ap (λ v. entry_row table ((means x).0, v)) value_is in
    ap (λ (z : List ℕ). rows_text table (map means items) ++ z) row ∙ (sym (flat_push (entry_row table) (map means items) (means x)) ∙ ap (rows_text table) (sym (map_push means items x)))

pub table_more : (table : Table) {X : Type 0} (means : X → Entry) (items : List X) (x : X) (writer : Writer (Vec ℕ Global)) (key value : List ℕ)
    → HasWritten table writer (table_text table (map means items) ++ entry_row table (key, value)) → key ≡ (means x).0 → value ≡ (means x).1
    → HasWritten table writer (table_text table (map means (items ++ x ∷ [])))
table_more table means items x writer key value written key_is value_is =
    let first = entry_row table header in
    subst (HasWritten table writer) (append_assoc first (rows_text table (map means items)) (entry_row table (key, value)) ∙ ap (λ (z : List ℕ). first ++ z) (rows_more table means items x key value key_is value_is)) written

-- the header is written first
pub table_begun : (table : Table) (writer : Writer (Vec ℕ Global)) (row : List ℕ) → HasWritten table writer ([] ++ row) → row ≡ table_text table [] → HasWritten table writer (table_text table [])
table_begun table writer row written is = subst (HasWritten table writer) is written
