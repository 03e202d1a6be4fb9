-- The tree and the map after it are the archive, or the cause is named.
use Rattle.std.proofs.Common.{ap}
use Rattle.btreearc_lines.specs.Grammar.{IsEntry}
use Rattle.btreearc_lines.proofs.Once.{entry-once}
use Rattle.btreearc_lines.proofs.Taken.{by_items}
use Rattle.btreearc_commands.specs.Archive.{IsArchived, IsUnbuilt}
use Rattle.btreearc_commands.specs.Streaming.{IsTried}
use Rattle.btreearc_commands.proofs.Tried.{archived_lines, unrooted, untried}
use Rattle.btreearc_commands.proofs.build.serialize_entries.Goals as goal

pub returns-in-Err-clause-err : goal.returns-in-Err-clause-err
returns-in-Err-clause-err g c =
    let from = g.W.Writer.state c.args.writer.now in
    let t = g.W.Writer.state c.try_serialize_from_ordered_iter.new.writer in
    by_items IsEntry entry-once (λ s. s.left) (λ s. g.B.Read.remaining s.input) {Q = λ entries. IsTried c.args.heading entries c.in-Err.fault} (g.B.Read.remaining c.args.input) c.new-items.result c.args.count (ap g.B.Read.remaining c.new-items.ensures.input) c.new-items.ensures.left
    (λ entries l number. untried (λ s. s.left) (λ s. g.B.Read.remaining s.input) c.new-items.result entries l c.args.heading from c.requires.begun c.requires.named c.args.count number c.in-Err.fault t c.in-Err.ensures.err.cause)

pub returns-in-Ok-write_root-clause-ok : goal.returns-in-Ok-write_root-clause-ok
returns-in-Ok-write_root-clause-ok g c =
    let from = g.W.Writer.state c.args.writer.now in
    let s = g.W.Writer.state c.try_serialize_from_ordered_iter.new.writer in
    let t = g.W.Writer.state c.write_root.new.writer in
    by_items IsEntry entry-once (λ s. s.left) (λ s. g.B.Read.remaining s.input) {Q = λ entries. IsArchived c.args.heading t.contents entries} (g.B.Read.remaining c.args.input) c.new-items.result c.args.count (ap g.B.Read.remaining c.new-items.ensures.input) c.new-items.ensures.left
    (λ entries l number. archived_lines (λ s. s.left) (λ s. g.B.Read.remaining s.input) c.new-items.result entries l c.args.heading from c.requires.begun c.requires.named c.args.count number c.in-Ok.root s t c.in-Ok.ensures.ok.written c.in-Ok-write_root.ensures.ok.len c.in-Ok-write_root.ensures.ok.wrote c.in-Ok-write_root.ensures.ok.last)

pub returns-in-Err-write_root-clause-err : goal.returns-in-Err-write_root-clause-err
returns-in-Err-write_root-clause-err g c =
    let from = g.W.Writer.state c.args.writer.now in
    let s = g.W.Writer.state c.try_serialize_from_ordered_iter.new.writer in
    let t = g.W.Writer.state c.write_root.new.writer in
    by_items IsEntry entry-once (λ s. s.left) (λ s. g.B.Read.remaining s.input) {Q = λ entries. IsUnbuilt c.args.heading entries c.in-Err-write_root.fault} (g.B.Read.remaining c.args.input) c.new-items.result c.args.count (ap g.B.Read.remaining c.new-items.ensures.input) c.new-items.ensures.left
    (λ entries l number. unrooted (λ s. s.left) (λ s. g.B.Read.remaining s.input) c.new-items.result entries l c.args.heading from c.requires.begun c.requires.named c.args.count number c.in-Ok.root s c.in-Err-write_root.fault t c.in-Ok.ensures.ok.written c.in-Err-write_root.ensures.err.cause)
