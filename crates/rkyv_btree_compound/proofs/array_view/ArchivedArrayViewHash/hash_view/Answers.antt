-- The hasher is fed the number of elements, and then each.
use Rattle.std.proofs.Common.{◌≡◌, ◌+◌, ◌*◌, ◌∙◌, ap}
use Rattle.std.specs.List.{fold}
use Rattle.rkyv_btree_compound.proofs.ArrayCompared.{hash_begin, hash_step}
use Rattle.rkyv_btree_compound.proofs.array_view.ArchivedArrayViewHash.hash_view.Goals as goal

pub loop-i-init : goal.loop-i-init
loop-i-init g c = hash_begin g.T.Portable.kind c.args.view.now.buf.now g.row.N c.args.view.now.pos g.H.Hasher.write c.args.state.now c.write_usize.new.self c.write_usize.ensures

pub loop-i-preserved : goal.loop-i-preserved
loop-i-preserved g c =
    let T = g.T.Portable.kind in
    let read : T.read c.element.result.buf.now c.element.result.pos ≡ T.read c.args.view.now.buf.now (c.args.view.now.pos + c.loop-i.i * T.size) = let x = c.element.ensures.buffer in let y = c.element.ensures.position in cc in
    c.loop-i.invariant ∙ hash_step T c.args.view.now.buf.now g.row.N c.args.view.now.pos g.H.Hasher.write c.loop-i.i c.loop-i.state c.hash_view.new.state c.loop-i-test.true (c.hash_view.ensures ∙ ap (λ v. fold g.H.Hasher.write c.loop-i.state (T.hash_input v)) read)
