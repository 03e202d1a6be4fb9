-- What was written is what the writer holds, and a flush keeps it.
use Rattle.std.proofs.Common.{◌≡◌, ℕ, List, Some, subst}
use Rattle.rkyv_btree_writer.specs.StdWriters.{HoldsAll}
use Rattle.btreearc_commands.specs.Archive.{IsArchived, archive_of}
use Rattle.btreearc_commands.proofs.Causes.{keeps_known, of_lines_so}
use Rattle.btreearc_commands.proofs.streaming.write_archive.Goals as goal

pub returns-in-Ok-flush-clause-ok : goal.returns-in-Ok-flush-clause-ok
returns-in-Ok-flush-clause-ok g c =
    let held = c.serialize_lines-built.new.writer.contents in
    of_lines_so {P = IsArchived c.args.heading held} {Q = λ entries. IsArchived c.args.heading (archive_of c.args.heading entries) entries × HoldsAll g.W.Write.contents c.flush.new.self (archive_of c.args.heading entries)} (g.B.Read.remaining c.args.input) c.args.count
    (λ entries a. (
      subst (λ (bytes : List ℕ). IsArchived c.args.heading bytes entries) a.exact a,
      λ known. keeps_known (g.W.Write.contents c.into_inner-output.result) (g.W.Write.contents c.flush.new.self) (archive_of c.args.heading entries)
          (subst (λ (bytes : List ℕ). g.W.Write.contents c.into_inner-output.result ≡ Some bytes) a.exact (c.into_inner-output.ensures known)) c.in-Ok-flush.ensures.bytes,
    ))
    c.in-Ok.ensures.ok
