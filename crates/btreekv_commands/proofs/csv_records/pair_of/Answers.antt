-- The two fields are the texts of the pair.
use Rattle.std.proofs.Common.{◌≡◌, ℕ, List, Some, length, IsUtf8, rules, string_bytes}
use Rattle.csv.specs.Records.{field_at, fields_of}
use Rattle.btreekv_commands.proofs.TablesParsed.{first_field, second_field, two_fields}
use Rattle.btreekv_commands.proofs.csv_records.pair_of.Goals as goal

pub returns-in-Ok-None-clause-none : goal.returns-in-Ok-None-clause-none
returns-in-Ok-None-clause-none c x pair =
    let none : (text : List ℕ) → IsUtf8 text → ¬ (field_at (fields_of c.args.row.now) 0 ≡ Some text) = rw c.in-Ok-None.field-0-is at c.in-Ok-None.ensures.none in
    none x.0 pair.key (first_field (fields_of c.args.row.now) x pair)

pub returns-in-Ok-Some-text_at-clause-some : goal.returns-in-Ok-Some-text_at-clause-some
returns-in-Ok-Some-text_at-clause-some c =
    let row = fields_of c.args.row.now in
    let two : length row ≡ 2 = search rules in
    let key : field_at row 0 ≡ Some (string_bytes c.in-Ok-Some.key) = rw c.in-Ok-Some.field-0-is at c.in-Ok-Some.ensures.some in
    let value : field_at row 1 ≡ Some (string_bytes c.in-Ok-Some-text_at.value) = rw c.in-Ok-Some-text_at.field-0-is at c.in-Ok-Some-text_at.ensures.some in record {
      fields = two_fields row (string_bytes c.in-Ok-Some.key) (string_bytes c.in-Ok-Some-text_at.value) two key value;
      key = rw c.in-Ok-Some.field-0-is at c.in-Ok-Some.ensures.utf8;
      value = rw c.in-Ok-Some-text_at.field-0-is at c.in-Ok-Some-text_at.ensures.utf8;
    }

pub returns-in-Ok-None-text_at-clause-none : goal.returns-in-Ok-None-text_at-clause-none
returns-in-Ok-None-text_at-clause-none c x pair =
    let none : (text : List ℕ) → IsUtf8 text → ¬ (field_at (fields_of c.args.row.now) 1 ≡ Some text) = rw c.in-Ok-None-text_at.field-0-is at c.in-Ok-None-text_at.ensures.none in
    none x.1 pair.value (second_field (fields_of c.args.row.now) x pair)
