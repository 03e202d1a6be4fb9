-- The first two elements that aren't equal decide.
use Rattle.std.proofs.Common.{◌≡◌, ◌+◌, ◌*◌, ◌∙◌, sym}
use Rattle.rkyv_btree_compound.proofs.ArrayCompared.{order_step, order_stop}
use Rattle.rkyv_btree_compound.proofs.array_view.ArchivedArrayViewOrd.compare.Goals as goal

pub returns-in_default : goal.returns-in_default
returns-in_default g c =
    let T = g.T.Portable.kind in
    let x = c.element.ensures in
    let y = c.element-in-loop-i.ensures in
    let told : T.order (T.read c.args.a.now.buf.now (c.args.a.now.pos + c.loop-i.i * T.size)) (T.read c.args.b.now.buf.now (c.args.b.now.pos + c.loop-i.i * T.size)) ≡ c.compare.result = let e = c.compare.ensures in let x0 = x.buffer in let x1 = x.position in let y0 = y.buffer in let y1 = y.position in cc in
    sym (c.loop-i.invariant ∙ (order_stop T c.args.a.now.buf.now c.args.b.now.buf.now g.row.N c.args.a.now.pos c.args.b.now.pos c.loop-i.i c.loop-i-test.true (λ equal. c.in_default.not-Equal (sym told ∙ equal)) ∙ told))

pub loop-i-preserved : goal.loop-i-preserved
loop-i-preserved g c =
    let T = g.T.Portable.kind in
    let x = c.element.ensures in
    let y = c.element-in-loop-i.ensures in
    let told : T.order (T.read c.args.a.now.buf.now (c.args.a.now.pos + c.loop-i.i * T.size)) (T.read c.args.b.now.buf.now (c.args.b.now.pos + c.loop-i.i * T.size)) ≡ c.compare.result = let e = c.compare.ensures in let x0 = x.buffer in let x1 = x.position in let y0 = y.buffer in let y1 = y.position in cc in
    c.loop-i.invariant ∙ order_step T c.args.a.now.buf.now c.args.b.now.buf.now g.row.N c.args.a.now.pos c.args.b.now.pos c.loop-i.i c.loop-i-test.true (told ∙ c.in-Equal.is)
