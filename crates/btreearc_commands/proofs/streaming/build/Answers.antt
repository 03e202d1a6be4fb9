-- What was tested was written.
use Rattle.std.proofs.Common.{[], Some, None}
use Rattle.std.specs.Io.KnownBytes.{Appends}
use Rattle.rkyv_btree_writer.specs.StdWriters.{HoldsAll}
use Rattle.btreearc_commands.specs.Archive.{IsArchived, archive_of}
use Rattle.btreearc_commands.proofs.Causes.{appends_all, built_so, of_lines_so}
use Rattle.btreearc_commands.proofs.streaming.build.Goals as goal

pub returns-in-Ok-written-clause-result : goal.returns-in-Ok-written-clause-result
returns-in-Ok-written-clause-result g c =
    let left = g.R.Reader.Read.remaining c.in-Ok-reopen.lines in
    let built = rw c.in-Ok-written.is at c.write_archive-written.ensures.ok in
    built_so c.args.is_strict c.args.heading (g.R.Reopen.bytes c.args.input.now) left None None c.in-Ok.count c.in-Ok-reopen.ensures.bytes c.in-Ok.ensures.ok
    (of_lines_so {P = λ entries. IsArchived c.args.heading (archive_of c.args.heading entries) entries × HoldsAll g.W.Write.contents c.write_archive-written.result.1 (archive_of c.args.heading entries)} {Q = λ entries. IsArchived c.args.heading (archive_of c.args.heading entries) entries × Appends None None (archive_of c.args.heading entries)} left c.in-Ok.count
    (λ entries h. (h.0, tt)) built)

pub returns-in-Ok-written-clause-written : goal.returns-in-Ok-written-clause-written
returns-in-Ok-written-clause-written g c known =
    let left = g.R.Reader.Read.remaining c.in-Ok-reopen.lines in
    let held = g.W.Write.contents c.write_archive-written.result.1 in
    let built = rw c.in-Ok-written.is at c.write_archive-written.ensures.ok in
    built_so c.args.is_strict c.args.heading (g.R.Reopen.bytes c.args.input.now) left (Some []) held c.in-Ok.count c.in-Ok-reopen.ensures.bytes c.in-Ok.ensures.ok
    (of_lines_so {P = λ entries. IsArchived c.args.heading (archive_of c.args.heading entries) entries × HoldsAll g.W.Write.contents c.write_archive-written.result.1 (archive_of c.args.heading entries)} {Q = λ entries. IsArchived c.args.heading (archive_of c.args.heading entries) entries × Appends (Some []) held (archive_of c.args.heading entries)} left c.in-Ok.count
    (λ entries h. (h.0, appends_all held (archive_of c.args.heading entries) (h.1 known))) built)
