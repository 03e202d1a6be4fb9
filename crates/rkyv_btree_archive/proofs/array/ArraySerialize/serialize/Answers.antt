-- One more element is serialised, or its fault is the array's.
use Rattle.std.proofs.Common.{◌≤◌, ◌∙◌, get_or, refl, arith}
use Rattle.std.proofs.lemmas.List.{length-set}
use Rattle.std.proofs.lemmas.Result.{err_from_is_err_and}
use Rattle.rkyv_btree_archive.proofs.ArraysWritten.{next_serialised, all_serialised, one_unserialised}
use Rattle.rkyv_btree_archive.proofs.array.ArraySerialize.serialize.Goals as goal

pub returns-in_err-serialize-clause-err : goal.returns-in_err-serialize-clause-err
returns-in_err-serialize-clause-err g c =
    let xs = c.args.self.now in
    let i = c.loop-i.i in
    let p = err_from_is_err_and c.from_residual.result c.from_residual.ensures.1 in
    rw (p.1, p.2) (one_unserialised g.T.Archive.archival g.row.N (g.W.Writer.state c.args.writer.now) (g.W.Writer.state c.loop-i.writer) _ xs i c.loop-i.resolvers (get_or xs i c.index-self-i.result) c.index-self-i.result (omega (arith, c.loop-i-test.true, c.type_inv.self)) c.type_inv.self refl c.loop-i.invariant.so_far c.in_err-serialize.field-0.0 c.in_err-serialize.ensures.err)

pub loop-i-preserved : goal.loop-i-preserved
loop-i-preserved g c =
    let xs = c.args.self.now in
    let i = c.loop-i.i in
    let step = next_serialised g.T.Archive.archival (g.W.Writer.state c.args.writer.now) (g.W.Writer.state c.loop-i.writer) (g.W.Writer.state c.serialize.new.writer) xs i c.loop-i.resolvers (get_or xs i c.index-self-i.result) c.index-self-i.result c.in_ok-serialize.field-0 (omega (arith, c.loop-i-test.true, c.type_inv.self)) (omega (arith, c.loop-i-test.true, c.loop-i.invariant.slots)) refl c.loop-i.invariant.so_far c.in_ok-serialize.ensures.ok in
    record { so_far = step; slots = length-set c.loop-i.resolvers i _ ∙ c.loop-i.invariant.slots }

pub returns-clause-ok : goal.returns-clause-ok
returns-clause-ok g c =
    let over : g.row.N ≤ c.loop-i.i = omega (arith, c.loop-i-test.false) in
    all_serialised g.T.Archive.archival g.row.N (g.W.Writer.state c.args.writer.now) (g.W.Writer.state c.loop-i.writer) c.args.self.now c.loop-i.i c.loop-i.resolvers c.type_inv.self c.loop-i.invariant.slots over c.loop-i.invariant.so_far
