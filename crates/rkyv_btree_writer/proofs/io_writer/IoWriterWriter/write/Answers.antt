use Rattle.rkyv_btree_writer.proofs.StdWrites.{failed_behind, on_err}
use Rattle.rkyv_btree_writer.specs.StdWriters.{known_bytes}
use Rattle.rkyv_btree_writer.proofs.io_writer.IoWriterWriter.write.Goals as goal

pub returns-then-is_err-clause-err : goal.returns-then-is_err-clause-err
returns-then-is_err-clause-err g c =
    let w = c.self.inside in
    on_err _ (failed_behind c.args.self.now (known_bytes (g.W.Write.contents w.first.value)) w.taken.bytes c.add.new.self.bytes c.args.bytes.now w.pos w.failures c.hand_on-count.result.0 c.self.view_is c.add.ensures c.hand_on-count.ensures.count c.self.invariant.1)
