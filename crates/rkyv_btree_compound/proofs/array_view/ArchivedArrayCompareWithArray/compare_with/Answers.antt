-- The first two elements that aren't equal decide.
use Rattle.std.proofs.Common.{◌≡◌, ◌+◌, ◌*◌, ◌∙◌, sym, arith}
use Rattle.rkyv_btree_compound.proofs.ArrayCompared.{drop_here, native_step, native_stop}
use Rattle.rkyv_btree_compound.proofs.array_view.ArchivedArrayCompareWithArray.compare_with.Goals as goal

pub returns-in_default : goal.returns-in_default
returns-in_default g c =
    let T = g.T.Portable.kind in
    let b = c.args.view.now.buf.now in
    let at = c.args.view.now.pos + c.loop-i.i * T.size in
    let told : g.T.CompareWith.compared_at c.index-native-i.result b at ≡ c.compare_with.result = let e = c.compare_with.ensures in let x = c.element.ensures.buffer in let y = c.element.ensures.position in cc in
    let here = drop_here c.args.native.now c.loop-i.i c.index-native-i.result (omega (arith, c.type_inv.native, c.loop-i-test.true)) c.index-native-i.is in
    sym (c.loop-i.invariant ∙ (native_stop T (λ native place. g.T.CompareWith.compared_at native b place) c.args.native.now g.row.N c.args.view.now.pos c.loop-i.i c.index-native-i.result c.loop-i-test.true here (λ equal. c.in_default.not-Equal (sym told ∙ equal)) ∙ told))

pub loop-i-preserved : goal.loop-i-preserved
loop-i-preserved g c =
    let T = g.T.Portable.kind in
    let b = c.args.view.now.buf.now in
    let at = c.args.view.now.pos + c.loop-i.i * T.size in
    let told : g.T.CompareWith.compared_at c.index-native-i.result b at ≡ c.compare_with.result = let e = c.compare_with.ensures in let x = c.element.ensures.buffer in let y = c.element.ensures.position in cc in
    let here = drop_here c.args.native.now c.loop-i.i c.index-native-i.result (omega (arith, c.type_inv.native, c.loop-i-test.true)) c.index-native-i.is in
    c.loop-i.invariant ∙ native_step T (λ native place. g.T.CompareWith.compared_at native b place) c.args.native.now g.row.N c.args.view.now.pos c.loop-i.i c.index-native-i.result c.loop-i-test.true here (told ∙ c.in-Equal.is)
