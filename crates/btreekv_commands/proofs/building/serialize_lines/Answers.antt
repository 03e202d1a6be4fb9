-- What is written after the heading is the file.
use Rattle.std.proofs.Common.{inl}
use Rattle.std.proofs.lemmas.Result.{on_ok_weaker}
use Rattle.btreekv_commands.specs.Building.{IsBuilt, IsTried}
use Rattle.btreekv_commands.proofs.Causes.{always, because_so, errs_so, tried_so}
use Rattle.btreekv_commands.proofs.WrittenFiles.{built_of}
use Rattle.btreekv_commands.proofs.building.serialize_lines.Goals as goal

pub returns-in-Ok-clause-ok : goal.returns-in-Ok-clause-ok
returns-in-Ok-clause-ok g c =
    let from = g.W.Writer.state c.write_heading.new.writer in
    let t = g.W.Writer.state c.serialize_entries.new.writer in
    on_ok_weaker c.serialize_entries.result
    (because_so {Q = λ entries. IsBuilt c.args.heading t.contents entries} (g.B.Read.remaining c.args.input) c.args.count
    (λ entries written. built_of c.archiving_is_lawful.ensures.archived c.args.heading from entries t.contents c.in-Ok.ensures.ok c.in-Ok.ensures.named written))
    c.serialize_entries.ensures.ok

pub returns-in-Ok-clause-err : goal.returns-in-Ok-clause-err
returns-in-Ok-clause-err g c =
    let from = g.W.Writer.state c.write_heading.new.writer in
    errs_so c.serialize_entries.result
    (λ fault. because_so {Q = λ entries. IsTried c.args.heading entries fault} (g.B.Read.remaining c.args.input) c.args.count
    (λ entries h. tried_so c.args.heading from entries fault c.in-Ok.ensures.ok h))
    c.serialize_entries.ensures.err

pub returns-in-Err-clause-err : goal.returns-in-Err-clause-err
returns-in-Err-clause-err g c = always (g.B.Read.remaining c.args.input) c.args.count (λ entries. inl c.in-Err.ensures.err)
