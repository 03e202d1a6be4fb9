-- Arrays are the same where each two elements are.
use Rattle.std.proofs.Common.{◌≡◌, ◌+◌, ◌*◌, ◌∙◌, sym}
use Rattle.rkyv_btree_compound.proofs.ArrayCompared.{same_step, same_stop}
use Rattle.rkyv_btree_compound.proofs.array_view.ArchivedArrayViewEq.is_same.Goals as goal

pub returns-then-not-is_same : goal.returns-then-not-is_same
returns-then-not-is_same g c =
    let T = g.T.Portable.kind in
    let x = c.element.ensures in
    let y = c.element-in-loop-i.ensures in
    let told : T.same (T.read c.args.a.now.buf.now (c.args.a.now.pos + c.loop-i.i * T.size)) (T.read c.args.b.now.buf.now (c.args.b.now.pos + c.loop-i.i * T.size)) ≡ c.is_same.result = let e = c.is_same.ensures in let x0 = x.buffer in let x1 = x.position in let y0 = y.buffer in let y1 = y.position in cc in
    sym (c.loop-i.invariant ∙ same_stop T c.args.a.now.buf.now c.args.b.now.buf.now g.row.N c.args.a.now.pos c.args.b.now.pos c.loop-i.i c.loop-i-test.true (told ∙ c.if-not-is_same.true))

pub loop-i-preserved : goal.loop-i-preserved
loop-i-preserved g c =
    let T = g.T.Portable.kind in
    let x = c.element.ensures in
    let y = c.element-in-loop-i.ensures in
    let told : T.same (T.read c.args.a.now.buf.now (c.args.a.now.pos + c.loop-i.i * T.size)) (T.read c.args.b.now.buf.now (c.args.b.now.pos + c.loop-i.i * T.size)) ≡ c.is_same.result = let e = c.is_same.ensures in let x0 = x.buffer in let x1 = x.position in let y0 = y.buffer in let y1 = y.position in cc in
    c.loop-i.invariant ∙ same_step T c.args.a.now.buf.now c.args.b.now.buf.now g.row.N c.args.a.now.pos c.args.b.now.pos c.loop-i.i c.loop-i-test.true (told ∙ c.if-not-is_same.false)
