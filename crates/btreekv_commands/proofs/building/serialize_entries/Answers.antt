-- The tree and the map after it are written, or the cause is named.
use Rattle.std.proofs.Common.{ap}
use Rattle.btreekv_commands.specs.Building.{IsTriedAfter, bytes_archival}
use Rattle.btreekv_commands.specs.Files.{IsUnwrittenAfter, IsWrittenAfter}
use Rattle.btreekv_commands.specs.Opening.{texts}
use Rattle.btreekv_commands.proofs.Taken.{by_entries}
use Rattle.btreekv_commands.proofs.Unbuilt.{entries_written, not_past, ok_or_err, rootless, tried}
use Rattle.btreekv_commands.proofs.building.serialize_entries.Goals as goal

pub returns-in-Err-clause-err : goal.returns-in-Err-clause-err
returns-in-Err-clause-err g c =
    let from = g.W.Writer.state c.args.writer.now in
    let t = g.W.Writer.state c.try_serialize_from_ordered_iter.new.writer in
    by_entries (λ s. s.left) (λ s. g.B.Read.remaining s.input) {Q = λ entries. IsTriedAfter from entries c.in-Err.fault} (g.B.Read.remaining c.args.input) c.new-items.result c.args.count (ap g.B.Read.remaining c.new-items.ensures.input) c.new-items.ensures.left
    (λ entries l number. tried c.archiving_is_lawful.ensures.archived c.archiving_is_lawful.ensures.causes (λ s. s.left) (λ s. g.B.Read.remaining s.input) c.new-items.result entries l from c.args.count number c.in-Err.fault t (λ none. (c.in-Err.ensures.limits.none none).0) c.in-Err.ensures.err.cause)

pub returns-in-Ok-write_root-clause-ok : goal.returns-in-Ok-write_root-clause-ok
returns-in-Ok-write_root-clause-ok g c =
    let from = g.W.Writer.state c.args.writer.now in
    let s = g.W.Writer.state c.try_serialize_from_ordered_iter.new.writer in
    let t = g.W.Writer.state c.write_root.new.writer in
    by_entries (λ s. s.left) (λ s. g.B.Read.remaining s.input) {Q = λ entries. IsWrittenAfter bytes_archival texts from entries t.contents} (g.B.Read.remaining c.args.input) c.new-items.result c.args.count (ap g.B.Read.remaining c.new-items.ensures.input) c.new-items.ensures.left
    (λ entries l number. entries_written c.archiving_is_lawful.ensures.archived c.archiving_is_lawful.ensures.causes (λ s. s.left) (λ s. g.B.Read.remaining s.input) c.new-items.result entries l from c.args.count number c.in-Ok.root s t _ c.in-Ok.ensures.ok.written c.in-Ok-write_root.ensures.ok)

pub returns-in-Err-write_root-clause-err : goal.returns-in-Err-write_root-clause-err
returns-in-Err-write_root-clause-err g c =
    let from = g.W.Writer.state c.args.writer.now in
    let s = g.W.Writer.state c.try_serialize_from_ordered_iter.new.writer in
    let t = g.W.Writer.state c.write_root.new.writer in
    by_entries (λ s. s.left) (λ s. g.B.Read.remaining s.input) {Q = λ entries. IsUnwrittenAfter bytes_archival texts from entries c.in-Err-write_root.fault} (g.B.Read.remaining c.args.input) c.new-items.result c.args.count (ap g.B.Read.remaining c.new-items.ensures.input) c.new-items.ensures.left
    (λ entries l number. rootless c.archiving_is_lawful.ensures.archived c.archiving_is_lawful.ensures.causes (λ s. s.left) (λ s. g.B.Read.remaining s.input) c.new-items.result entries l from c.args.count number c.in-Ok.root s t c.in-Err-write_root.fault (not_past c.args.count (λ more. ok_or_err _ _ (c.in-Ok.ensures.limits.past more).0)) c.in-Ok.ensures.ok.written c.in-Err-write_root.ensures.err.cause)
