-- What is written is the archive of the last values, or the cause is named.
use Rattle.std.proofs.Common.{List, ℕ, subst}
use Rattle.std.specs.Io.KnownBytes.{Appends}
use Rattle.btreearc_lines.specs.Headings.{IsHeaded}
use Rattle.btreearc_commands.specs.Opening.{IsArchive, entries_read, numbers_name}
use Rattle.btreearc_commands.proofs.Listed.{migrate_fails, output_migrated}
use Rattle.btreearc_commands.proofs.program.migrate.Goals as goal

pub returns-in-Err-clause-done : goal.returns-in-Err-clause-done
returns-in-Err-clause-done g c =
    let map = c.in_ok-map.map in
    let entries = entries_read map.buf.now map.pos in
    migrate_fails c.in_ok-heading.heading c.in_ok-archive.archive.items entries
    (subst (λ (b : List ℕ). IsHeaded numbers_name b c.in_ok-heading.heading) c.deref.ensures.value c.in_ok-heading.ensures.ok)
    (subst (λ (b : List ℕ). IsArchive b entries) c.deref-2.ensures.value c.in_ok-map.ensures.accepted) (g.R.Read.remaining c.args.input.now) (g.W.Write.contents c.args.output.now) c.in-Err.fault c.in_ok-archive.ensures.all c.in-Err.ensures.err

pub returns-clause-done : goal.returns-clause-done
returns-clause-done g c =
    let map = c.in_ok-map.map in
    let entries = entries_read map.buf.now map.pos in
    output_migrated c.in_ok-heading.heading c.in_ok-archive.archive.items entries
    (subst (λ (b : List ℕ). IsHeaded numbers_name b c.in_ok-heading.heading) c.deref.ensures.value c.in_ok-heading.ensures.ok)
    (subst (λ (b : List ℕ). IsArchive b entries) c.deref-2.ensures.value c.in_ok-map.ensures.accepted) (g.R.Read.remaining c.args.input.now) (g.W.Write.contents c.args.output.now) (g.W.Write.contents c.write_all.new.output) c.in-Ok.made.items c.in_ok-archive.ensures.all c.in-Ok.ensures.ok
    (subst (λ (bytes : List ℕ). Appends (g.W.Write.contents c.args.output.now) (g.W.Write.contents c.write_all.new.output) bytes) c.deref-3.ensures.value c.in_ok-write_all.ensures.all)
