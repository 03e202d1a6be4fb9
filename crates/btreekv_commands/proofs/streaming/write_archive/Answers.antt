-- What was written is what the writer holds, and a flush keeps it.
use Rattle.std.proofs.Common.{ℕ, List}
use Rattle.rkyv_btree_writer.specs.StdWriters.{HoldsAll}
use Rattle.btreekv_commands.specs.Building.{IsBuilt}
use Rattle.btreekv_commands.proofs.Causes.{because_so, keeps_known}
use Rattle.btreekv_commands.proofs.streaming.write_archive.Goals as goal

pub returns-in-Ok-flush-clause-ok : goal.returns-in-Ok-flush-clause-ok
returns-in-Ok-flush-clause-ok g c =
    because_so {Q = λ entries. (text : List ℕ) × IsBuilt c.args.heading text entries × HoldsAll g.W.Write.contents c.flush.new.self text} (g.B.Read.remaining c.args.input) c.args.count
    (λ entries archive. (c.serialize_lines-built.new.writer.contents, archive, λ known. keeps_known (g.W.Write.contents c.into_inner-output.result) (g.W.Write.contents c.flush.new.self) c.serialize_lines-built.new.writer.contents (c.into_inner-output.ensures known) c.in-Ok-flush.ensures.bytes))
    c.in-Ok.ensures.ok
