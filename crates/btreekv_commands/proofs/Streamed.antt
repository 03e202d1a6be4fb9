-- Entries that a writer takes one by one.
use Rattle.std.proofs.Common.{◌≡◌, ℕ, List, [], ◌∷◌, ◌++◌, Option, map, refl, ap, subst, ◌∙◌}
use Rattle.std.proofs.KnownBytes.{Appends-kept, Appends-trans}
use Rattle.std.specs.Io.KnownBytes.{Appends, Keeps}
use Rattle.btreekv_commands.specs.CsvRecords.{entry_row, header, rows_text, table_text}
use Rattle.btreekv_commands.specs.Forms.{entry_line, text_in}
use Rattle.btreekv_commands.specs.Json.{json_line, member, members}
use Rattle.btreekv_commands.specs.Lines.{Entry}
use Rattle.btreekv_commands.specs.declared.csv_records.Table.{Table}
use Rattle.btreekv_commands.specs.declared.forms.Form.{Form}
use Rattle.btreekv_commands.proofs.JsonTexts.{member_more, object_line, separator}
use Rattle.btreekv_commands.proofs.TablesWritten.{rows_more}
use Rattle.btreekv_commands.proofs.Listed.{text_more}

module _ {X : Type 0} (means : X → Entry) (items : List X) (x : X) (old mid new : Option (List ℕ)) where
  -- the line of one more entry is written
  pub line_streamed : (form : Form) (line key value : List ℕ) → Appends old mid (text_in form (map means items)) → line ≡ entry_line form (key, value) → Appends mid new line
      → key ≡ (means x).0 → value ≡ (means x).1 → Appends old new (text_in form (map means (items ++ x ∷ [])))
  line_streamed form line key value before is written key_is value_is =
      let text = text_in form (map means items) in
      subst (Appends old new) (ap (λ z. text ++ z) is ∙ text_more form means items x [] text (text ++ entry_line form (key, value)) key value refl refl key_is value_is)
      (Appends-trans old mid new text line before written)

  -- the record of one more entry is written
  pub row_streamed : (table : Table) (key value : List ℕ) → Appends old mid (rows_text table (map means items)) → Appends mid new (entry_row table (key, value))
      → key ≡ (means x).0 → value ≡ (means x).1 → Appends old new (rows_text table (map means (items ++ x ∷ [])))
  row_streamed table key value before written key_is value_is =
      subst (Appends old new) (rows_more table means items x key value key_is value_is) (Appends-trans old mid new _ _ before written)

  -- one more member is written, with what comes before it
  pub member_streamed : (line before key value : List ℕ) → Appends old mid (members (map means items)) → before ≡ separator (map means items) → line ≡ before ++ member (key, value)
      → Appends mid new line → key ≡ (means x).0 → value ≡ (means x).1 → Appends old new (members (map means (items ++ x ∷ [])))
  member_streamed line before key value so_far sep is written key_is value_is =
      subst (Appends old new) (member_more means items x before line key value sep is key_is value_is) (Appends-trans old mid new _ line so_far written)

-- a bracket, members, a bracket and a line feed are written
pub object_streamed : (a b c d e : Option (List ℕ)) (es : List Entry) → Appends a b (123 ∷ []) → Appends b c (members es) → Appends c d (125 ∷ 10 ∷ []) → Keeps d e → Appends a e (json_line es)
object_streamed a b c d e es first all last kept =
    subst (Appends a e) (object_line es) (Appends-kept a d e _ (Appends-trans a c d _ _ (Appends-trans a b c _ _ first all) last) kept)

-- the header is written, and then the records
pub table_streamed : (a b c d : Option (List ℕ)) (table : Table) (es : List Entry) → Appends a b (entry_row table header) → Appends b c (rows_text table es) → Keeps c d
    → Appends a d (table_text table es)
table_streamed a b c d table es first all kept = Appends-kept a c d _ (Appends-trans a b c _ _ first all) kept
