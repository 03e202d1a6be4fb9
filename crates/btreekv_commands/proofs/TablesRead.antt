-- Tables that are written are read as the same entries.
use Rattle.std.proofs.Common.{◌≡◌, ◌==◌, ◌++◌, ◌∷◌, ◌∙◌, [], ℕ, List, Bool, Some, None, refl, sym, ap, subst, true, false, append_assoc, inl, inr, codes, flat_map, map, append-nil}
use Rattle.std.specs.Prelude.{◌||◌}
use Rattle.std.specs.List.{AllByRecursion, list_any}
use Rattle.std.proofs.lemmas.Bool.{cases_Bool, eqb-true, eq-eqb}
use Rattle.json.proofs.Printed.Utf8.{IsUtf8-are_ascii}
use Rattle.csv.specs.Machine.{next_record}
use Rattle.csv.specs.Reading.{Reached, default_config, strip_bom}
use Rattle.csv.specs.Writing.{default_writer, escaped, field_text, fields_text, is_blank, needs_byte, row_text, with_delimiter}
use Rattle.csv.specs.declared.parser.Config.{Config}
use Rattle.csv.specs.declared.parser.State.TheVariants as st
use Rattle.csv.specs.declared.writer.WriterBuilder.{WriterBuilder}
use Rattle.btreekv_commands.specs.CsvRecords.{ArePairs, AreTableEntries, delimiter_of, entry_row, header, reading, table_text}
use Rattle.btreekv_commands.specs.Lines.{Entry}
use Rattle.btreekv_commands.specs.Records.{AreUtf8}
use Rattle.btreekv_commands.specs.declared.csv_records.Table.{Table}
use Rattle.btreekv_commands.specs.declared.csv_records.Table.TheVariants.{Csv, Tsv}

or_left : (a b : Bool) → (a || b) ≡ false → a ≡ false
or_left false b e = refl
or_left true b e = cc e

or_right : (a b : Bool) → (a || b) ≡ false → b ≡ false
or_right false b e = e
or_right true b e = cc e

not_true : (x : Bool) → (x ≡ true → ⊥) → x ≡ false
not_true true n = absurd (n refl)
not_true false n = refl

abbrev reads : ℕ → Config
reads d = record default_config { delimiter = d }

abbrev writes : ℕ → WriterBuilder
writes d = with_delimiter default_writer d

-- a byte that calls for no quotes is no mark of the format
plain_byte : (d b : ℕ) → needs_byte (writes d) b ≡ false → ((b == d) ≡ false) × ((b == 34) ≡ false) × ((b == 13) ≡ false) × ((b == 10) ≡ false)
plain_byte d b e =
    let a = not_true (b == d) (λ t. cc (rw t at e)) in
    let q = not_true (b == 34) (λ t. cc (rw (a, t) at e)) in
    let r = not_true (b == 13) (λ t. cc (rw (a, q, t) at e)) in
    let n = not_true (b == 10) (λ t. cc (rw (a, q, r, t) at e)) in
    (a, q, r, n)

-- the bytes of a field with no mark in them
plain_run : (d : ℕ) (fields : List (List ℕ)) (field x tail : List ℕ) → list_any (needs_byte (writes d)) x ≡ false
    → next_record (reads d) st.InField fields field (x ++ tail) ≡ next_record (reads d) st.InField fields (field ++ x) tail
unfolding next_record
plain_run d fields field [] tail e = rw (append-nil field) refl
plain_run d fields field (b ∷ rest) tail e =
    let q = plain_byte d b (or_left _ _ e) in
    rw (q.0, q.2, q.3) (plain_run d fields (field ++ (b ∷ [])) rest tail (or_right _ _ e)
    ∙ ap (λ (f : List ℕ). next_record (reads d) st.InField fields f tail) (append_assoc field (b ∷ []) rest))

-- a byte that is no quote, between quotes
quoted_plain : (d : ℕ) (fields : List (List ℕ)) (field : List ℕ) (b : ℕ) (tail : List ℕ) → (b == 34) ≡ false
    → next_record (reads d) st.InQuoted fields field (b ∷ tail) ≡ next_record (reads d) st.InQuoted fields (field ++ (b ∷ [])) tail
unfolding next_record
quoted_plain d fields field b tail n = rw n refl

escaped_plain : (d b : ℕ) (rest : List ℕ) → (b == 34) ≡ false → escaped (writes d) (b ∷ rest) ≡ b ∷ escaped (writes d) rest
unfolding escaped
escaped_plain d b rest n = rw n refl

-- the bytes of a field between quotes, and the quote that ends them
quoted_run : (d : ℕ) (fields : List (List ℕ)) (field x tail : List ℕ)
    → next_record (reads d) st.InQuoted fields field (escaped (writes d) x ++ (34 ∷ tail))
    ≡ next_record (reads d) st.AfterQuote fields (field ++ x) tail
unfolding next_record escaped
quoted_run d fields field [] tail = rw (append-nil field) refl
quoted_run d fields field (b ∷ rest) tail = elim (cases_Bool (b == 34)) [
  | inl same ↦
      subst (λ (z : ℕ). next_record (reads d) st.InQuoted fields field (escaped (writes d) (z ∷ rest) ++ (34 ∷ tail))
      ≡ next_record (reads d) st.AfterQuote fields (field ++ (z ∷ rest)) tail) (sym (eqb-true b 34 same))
      (quoted_run d fields (field ++ (34 ∷ [])) rest tail
      ∙ ap (λ (f : List ℕ). next_record (reads d) st.AfterQuote fields f tail) (append_assoc field (34 ∷ []) rest))
  | inr other ↦
      rw (escaped_plain d b rest other) (quoted_plain d fields field b _ other
      ∙ quoted_run d fields (field ++ (b ∷ [])) rest tail
      ∙ ap (λ (f : List ℕ). next_record (reads d) st.AfterQuote fields f tail) (append_assoc field (b ∷ []) rest))
]

-- a byte that is no quote does the same after a quote, at the start of a field and in one
after_quote : (d : ℕ) (fields : List (List ℕ)) (field : List ℕ) (c : ℕ) (tail : List ℕ) → (c == 34) ≡ false
    → next_record (reads d) st.AfterQuote fields field (c ∷ tail) ≡ next_record (reads d) st.InField fields field (c ∷ tail)
unfolding next_record
after_quote d fields field c tail n = rw n refl

at_start : (d : ℕ) (fields : List (List ℕ)) (field : List ℕ) (c : ℕ) (tail : List ℕ) → (c == 34) ≡ false
    → next_record (reads d) st.StartField fields field (c ∷ tail) ≡ next_record (reads d) st.InField fields field (c ∷ tail)
unfolding next_record
at_start d fields field c tail n = rw n refl

-- a byte that ends no record starts one as it starts a field
at_record : (d c : ℕ) (tail : List ℕ) → (c == 13) ≡ false → (c == 10) ≡ false
    → next_record (reads d) st.StartRecord [] [] (c ∷ tail) ≡ next_record (reads d) st.StartField [] [] (c ∷ tail)
unfolding next_record
at_record d c tail r n = rw (r, n) refl

-- a field with no mark in it, from its start
plain_start : (d : ℕ) (fields : List (List ℕ)) (x : List ℕ) (c : ℕ) (tail : List ℕ) → (c == 34) ≡ false → list_any (needs_byte (writes d)) x ≡ false
    → next_record (reads d) st.StartField fields [] (x ++ (c ∷ tail)) ≡ next_record (reads d) st.InField fields x (c ∷ tail)
plain_start d fields [] c tail n p = at_start d fields [] c tail n
plain_start d fields (b ∷ rest) c tail n p =
    let q = plain_byte d b (or_left _ _ p) in
    at_start d fields [] b (rest ++ (c ∷ tail)) q.1 ∙ plain_run d fields [] (b ∷ rest) (c ∷ tail) p

quoted_text : (d : ℕ) (x tail : List ℕ) → list_any (needs_byte (writes d)) x ≡ true → field_text (writes d) x ++ tail ≡ 34 ∷ (escaped (writes d) x ++ 34 ∷ tail)
quoted_text d x tail needs = rw needs (ap (λ (t : List ℕ). 34 ∷ t) (append_assoc (escaped (writes d) x) (34 ∷ []) tail))

plain_text : (d : ℕ) (x : List ℕ) → list_any (needs_byte (writes d)) x ≡ false → field_text (writes d) x ≡ x
plain_text d x plain = rw plain refl

quoted_start : (d : ℕ) (fields : List (List ℕ)) (x : List ℕ) (c : ℕ) (tail : List ℕ) → (c == 34) ≡ false
    → next_record (reads d) st.StartField fields [] (34 ∷ (escaped (writes d) x ++ 34 ∷ c ∷ tail)) ≡ next_record (reads d) st.InField fields x (c ∷ tail)
unfolding next_record
quoted_start d fields x c tail n = quoted_run d fields [] x (c ∷ tail) ∙ after_quote d fields x c tail n

-- a field with what comes after it, which starts with no quote
field_run : (d : ℕ) (fields : List (List ℕ)) (x : List ℕ) (c : ℕ) (tail : List ℕ) → (c == 34) ≡ false
    → next_record (reads d) st.StartField fields [] (field_text (writes d) x ++ (c ∷ tail)) ≡ next_record (reads d) st.InField fields x (c ∷ tail)
field_run d fields x c tail n = elim (cases_Bool (list_any (needs_byte (writes d)) x)) [
  | inl needs ↦ rw (quoted_text d x (c ∷ tail) needs) (quoted_start d fields x c tail n)
  | inr plain ↦ rw (plain_text d x plain) (plain_start d fields x c tail n plain)
]

-- the byte between fields is none of the marks of a record
record IsApart (d : ℕ) : Type 0 where
  quote : (d == 34) ≡ false
  carriage : (d == 13) ≡ false
  feed : (d == 10) ≡ false
  end : (10 == d) ≡ false

apart : (table : Table) → IsApart (delimiter_of table)
apart Csv = record { quote = refl; carriage = refl; feed = refl; end = refl }
apart Tsv = record { quote = refl; carriage = refl; feed = refl; end = refl }

end_field : (d : ℕ) (x tail : List ℕ) → next_record (reads d) st.InField [] x (d ∷ tail) ≡ next_record (reads d) st.StartField (x ∷ []) [] tail
unfolding next_record
end_field d x tail = rw (eq-eqb d d refl) refl

end_record : (d : ℕ) (x y tail : List ℕ) → (10 == d) ≡ false → next_record (reads d) st.InField (x ∷ []) y (10 ∷ tail) ≡ Some (x ∷ y ∷ [], st.StartRecord, tail)
unfolding next_record
end_record d x y tail e = rw e refl

-- a record starts as its first field does
plain_first : (d : ℕ) (x tail : List ℕ) → IsApart d → list_any (needs_byte (writes d)) x ≡ false
    → next_record (reads d) st.StartRecord [] [] (x ++ (d ∷ tail)) ≡ next_record (reads d) st.StartField [] [] (x ++ (d ∷ tail))
plain_first d [] tail a p = at_record d d tail a.carriage a.feed
plain_first d (b ∷ rest) tail a p =
    let q = plain_byte d b (or_left _ _ p) in
    at_record d b (rest ++ (d ∷ tail)) q.2 q.3

first_field : (d : ℕ) (x tail : List ℕ) → IsApart d
    → next_record (reads d) st.StartRecord [] [] (field_text (writes d) x ++ (d ∷ tail)) ≡ next_record (reads d) st.StartField [] [] (field_text (writes d) x ++ (d ∷ tail))
first_field d x tail a = elim (cases_Bool (list_any (needs_byte (writes d)) x)) [
  | inl needs ↦ rw (quoted_text d x (d ∷ tail) needs) (at_record d 34 (escaped (writes d) x ++ 34 ∷ d ∷ tail) refl refl)
  | inr plain ↦ rw (plain_text d x plain) (plain_first d x tail a plain)
]

row_is : (d : ℕ) (x y tail : List ℕ) → row_text (writes d) (x ∷ y ∷ []) ++ tail ≡ field_text (writes d) x ++ (d ∷ (field_text (writes d) y ++ (10 ∷ tail)))
unfolding is_blank fields_text
row_is d x y tail =
    let fx = field_text (writes d) x in
    let fy = field_text (writes d) y in
    append_assoc (fx ++ (d ∷ (fy ++ []))) (10 ∷ []) tail ∙ (append_assoc fx (d ∷ (fy ++ [])) (10 ∷ tail)
    ∙ ap (λ (t : List ℕ). fx ++ (d ∷ (t ++ 10 ∷ tail))) (append-nil fy))

row_read : (d : ℕ) (x y tail : List ℕ) → IsApart d
    → next_record (reads d) st.StartRecord [] [] (row_text (writes d) (x ∷ y ∷ []) ++ tail) ≡ Some (x ∷ y ∷ [], st.StartRecord, tail)
row_read d x y tail a =
    ap (next_record (reads d) st.StartRecord [] []) (row_is d x y tail)
    ∙ (first_field d x (field_text (writes d) y ++ (10 ∷ tail)) a
    ∙ (field_run d [] x d (field_text (writes d) y ++ (10 ∷ tail)) a.quote
    ∙ (end_field d x (field_text (writes d) y ++ (10 ∷ tail))
    ∙ (field_run d (x ∷ []) y 10 tail refl ∙ end_record d x y tail a.end))))

abbrev fields_in : Entry → List (List ℕ)
fields_in e = e.0 ∷ e.1 ∷ []

rows_read : (table : Table) (entries : List Entry) → Reached (reading table) st.StartRecord (flat_map (entry_row table) entries) (map fields_in entries) st.StartRecord []
unfolding Reached
rows_read table [] = (refl, refl)
rows_read table (e ∷ es) =
    ((fields_in e, st.StartRecord, flat_map (entry_row table) es), row_read (delimiter_of table) e.0 e.1 (flat_map (entry_row table) es) (apart table), refl, rows_read table es)

nothing_left : (table : Table) → next_record (reading table) st.StartRecord [] [] [] ≡ None
unfolding next_record
nothing_left table = refl

pairs_of : (entries : List Entry) → AllByRecursion AreUtf8 entries → ArePairs (map fields_in entries) entries
pairs_of [] h = tt
pairs_of (e ∷ es) h = (record { fields = refl; key = h.0.0; value = h.0.1 }, pairs_of es h.1)

-- a table starts with no byte order mark
unmarked : (table : Table) (entries : List Entry) → strip_bom (table_text table entries) ≡ table_text table entries
unfolding strip_bom is_blank fields_text
unmarked Csv entries = refl
unmarked Tsv entries = refl

pub table_read : (table : Table) (entries : List Entry) → AllByRecursion AreUtf8 entries → AreTableEntries table (table_text table entries) entries
table_read table entries h =
    let named : AllByRecursion AreUtf8 (header ∷ entries) = ((IsUtf8-are_ascii (codes "key") refl, IsUtf8-are_ascii (codes "value") refl), h) in (
      header ∷ entries,
      record {
        rows = map fields_in (header ∷ entries);
        all = (st.StartRecord, [], subst (λ (text : List ℕ). Reached (reading table) st.StartRecord text (map fields_in (header ∷ entries)) st.StartRecord []) (sym (unmarked table entries)) (rows_read table (header ∷ entries)), nothing_left table);
        are = pairs_of (header ∷ entries) named;
      },
      refl,
    )
