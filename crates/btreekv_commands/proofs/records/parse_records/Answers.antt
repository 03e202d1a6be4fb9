-- One more record is read, or the first that is left is no entry.
use Rattle.std.proofs.Common.{◌≡◌, ◌+◌, [], ◌∷◌, ◌++◌, length, map, arith, rules}
use Rattle.std.proofs.lemmas.List.{length-map}
use Rattle.btreekv_commands.specs.Lines.{Entry}
use Rattle.btreekv_commands.specs.Records.{IsRecord}
use Rattle.btreekv_commands.specs.Texts.{texts_of}
use Rattle.btreekv_commands.proofs.Recorded.{bad_read, entry_read}
use Rattle.btreekv_commands.proofs.records.parse_records.Goals as goal

pub returns-in-Ok-None-clause-err : goal.returns-in-Ok-None-clause-err
returns-in-Ok-None-clause-err c =
    let none : (x : Entry) → ¬ IsRecord c.args.form c.first_record.result.0.now x = rw c.in-Ok-None.field-0-is at c.in-Ok-None.ensures.none in
    bad_read c.args.form c.end_of-end.result c.args.bytes.now c.loop-rest.rest.now c.first_record.result.0.now c.first_record.result.1.now (map texts_of c.loop-rest.entries.items) (c.len.result + 1)
    c.end_of-end.ensures c.loop-rest.invariant c.first_record.ensures.records none
    (omega (arith, c.len.ensures, c.loop-rest.entries.ok.0, length-map c.loop-rest.entries.items texts_of))

pub loop-rest-preserved : goal.loop-rest-preserved
loop-rest-preserved c =
    let pushed : c.push.new.self.items ≡ c.loop-rest.entries.items ++ c.in-Ok-Some.entry ∷ [] = search rules in
    let entry : IsRecord c.args.form c.first_record.result.0.now (texts_of c.in-Ok-Some.entry) = rw c.in-Ok-Some.field-0-is at c.in-Ok-Some.ensures.some in
    entry_read c.args.form c.end_of-end.result c.args.bytes.now c.loop-rest.rest.now c.first_record.result.0.now c.first_record.result.1.now c.loop-rest.entries.items c.push.new.self.items c.in-Ok-Some.entry
    c.end_of-end.ensures c.loop-rest.invariant c.first_record.ensures.records entry pushed
