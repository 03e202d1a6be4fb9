-- An element is read where it is.
use Rattle.std.proofs.Common.{◌≡◌, ◌+◌, ◌*◌, ◌∙◌, Some, ap, sym, arith}
use Rattle.std.proofs.lemmas.Option.{slice_get_past}
use Rattle.rkyv_btree_compound.proofs.VectorViews.{read_at, read_length}
use Rattle.rkyv_btree_compound.specs.Elements.{elements_read}
use Rattle.rkyv_btree_compound.proofs.array_view.ViewArchivedArrayViewArray.get.Goals as goal

pub returns-then-index-clause-value : goal.returns-then-index-clause-value
returns-then-index-clause-value g c =
    let long = read_length g.T.Portable.kind c.args.self.buf.now g.row.N c.args.self.pos in
    sym (slice_get_past (elements_read g.T.Portable.kind c.args.self.buf.now g.row.N c.args.self.pos) c.args.index (omega (arith, long, c.if-index.true)))

pub returns-clause-value : goal.returns-clause-value
returns-clause-value g c =
    let T = g.T.Portable.kind in
    let x = c.element.ensures.buffer in
    let y = c.element.ensures.position in
    let read : T.read c.element.result.buf.now c.element.result.pos ≡ T.read c.args.self.buf.now (c.args.self.pos + c.args.index * T.size) = cc in
    ap Some read ∙ sym (read_at T c.args.self.buf.now g.row.N c.args.self.pos c.args.index (omega (arith, c.if-index.false)))
