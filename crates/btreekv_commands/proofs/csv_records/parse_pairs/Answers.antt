-- One more record is read, or the next one is no pair.
use Rattle.std.proofs.Common.{Bor, ◌≡◌, ◌∙◌, ◌++◌, ◌∷◌, [], ℕ, List, Some, map, refl, sym, rules, arith, inl}
use Rattle.std.proofs.lemmas.List.{length-map}
use Rattle.csv.specs.Reading.{Reached, strip_bom}
use Rattle.csv.specs.Records.{fields_of}
use Rattle.csv.specs.declared.parser.State.TheVariants.{StartRecord}
use Rattle.csv.proofs.ReadFacts.{rows-more}
use Rattle.btreekv_commands.specs.CsvRecords.{IsPair, reading}
use Rattle.btreekv_commands.specs.Lines.{Entry}
use Rattle.btreekv_commands.specs.Texts.{texts_of}
use Rattle.btreekv_commands.proofs.TablesParsed.{count_pairs, more_pairs}
use Rattle.btreekv_commands.proofs.csv_records.parse_pairs.Goals as goal

pub loop-row-init : goal.loop-row-init
unfolding Reached
loop-row-init c =
    let start = c.into_iter-row-iterator.ensures.into_iter_gives ∙ refl in
    let of = c.reader_of.ensures in
    let items = c.into_byte_records-row-items.ensures in
    rw (start, items.rdr, c.new-pairs.ensures.items)
    (items.left, of.trim, of.ready, of.config, of.flexible, strip_bom c.args.bytes.now, of.source, [], (sym of.state, refl), tt)

pub loop-row-preserved : goal.loop-row-preserved
loop-row-preserved c =
    let (left, trim, ready, config, flexible, rest, source, rows, reached, pairs) = c.loop-row.invariant in
    let step = rw (c.in-Some.is, c.in-Ok.is) at (c.next.ensures.steps left trim) in
    let row = step.0 ready in
    let pushed : c.push.new.self.items ≡ c.loop-row.pairs.items ++ c.in-Ok-Some.pair ∷ [] = search rules in
    let pair : IsPair (fields_of c.in-Ok.row) (texts_of c.in-Ok-Some.pair) = rw c.in-Ok-Some.field-0-is at c.in-Ok-Some.ensures.some in
    let more = rows-more (λ (s : Bor (List ℕ)). Some s.now) c.loop-row.row-iterator.rdr c.next.new.self.rdr (fields_of c.in-Ok.row) (reading c.args.table) StartRecord (strip_bom c.args.bytes.now) rest rows config source reached row.0 in (
      row.2,
      row.0.3 ∙ trim,
      inl row.1,
      row.0.2 ∙ config,
      step.3 ∙ flexible,
      more.0,
      more.1,
      rows ++ fields_of c.in-Ok.row ∷ [],
      more.2,
      more_pairs rows (fields_of c.in-Ok.row) c.loop-row.pairs.items c.push.new.self.items c.in-Ok-Some.pair pairs pair pushed,
    )

pub returns-in-Ok-None-clause-err : goal.returns-in-Ok-None-clause-err
returns-in-Ok-None-clause-err c =
    let (left, trim, ready, config, flexible, rest, source, rows, reached, pairs) = c.loop-row.invariant in
    let row = rw (c.in-Some.is, c.in-Ok.is) at ((c.next.ensures.steps left trim).0 ready) in
    let none : (x : Entry) → ¬ IsPair (fields_of c.in-Ok.row) x = rw c.in-Ok-None.field-0-is at c.in-Ok-None.ensures.none in
    let more = rows-more (λ (s : Bor (List ℕ)). Some s.now) c.loop-row.row-iterator.rdr c.next.new.self.rdr (fields_of c.in-Ok.row) (reading c.args.table) StartRecord (strip_bom c.args.bytes.now) rest rows config source reached row.0 in record {
      before = rows;
      bad = fields_of c.in-Ok.row;
      pairs = map texts_of c.loop-row.pairs.items;
      state = c.next.new.self.rdr.state;
      rest = more.0;
      first = more.2;
      good = pairs;
      no_pair = none;
      number = omega (arith, c.len.ensures, c.loop-row.pairs.ok.0, length-map c.loop-row.pairs.items texts_of, count_pairs rows (map texts_of c.loop-row.pairs.items) pairs);
    }
