-- One more value means something after those before it, or it is the first that means nothing.
use Rattle.std.proofs.Common.{◌≡◌, ℕ, ◌+◌, ◌*◌, ◌++◌, [], ◌∷◌, length, length-append, arith, ap, sym, subst, ◌∙◌}
use Rattle.rkyv_btree_compound.specs.laws.ElementLaws.{elements_more}
use Rattle.rkyv_btree_portable.proofs.Parts.{part_accepted}
use Rattle.rkyv_btree_compound.proofs.elements.check_elements.Goals as goal

pub loop-i-preserved : goal.loop-i-preserved
loop-i-preserved g c =
    let so_far = c.loop-i.invariant.0 in
    let within = c.in_ok-left.ensures.within in
    let place : c.args.start + c.loop-i.i * c.size-size.result ≡ c.args.start + length so_far.0 * g.T.Portable.kind.size = ap (λ (n : ℕ). c.args.start + c.loop-i.i * n) c.size-size.ensures ∙ ap (λ (n : ℕ). c.args.start + n * g.T.Portable.kind.size) (sym so_far.1) in
    let value = part_accepted g.T.Portable.kind g.met.T.Portable.laws c.requires.fitting _ _ _ _ _ c.loop-i.invariant.2 (omega arith) c.in_ok-left.ensures.gives in
    let means = subst (λ (at : ℕ). g.T.Portable.kind.Means c.args.buf.now c.loop-i.left c.args.hi at c.in_ok-left.left value.0) place value.1 in
    let more = elements_more g.T.Portable.kind g.met.T.Portable.laws c.args.buf.now c.args.lo c.args.hi c.args.start c.loop-i.left c.in_ok-left.left so_far.0 value.0 so_far.2 means in (
      (so_far.0 ++ value.0 ∷ [], length-append so_far.0 (value.0 ∷ []) ∙ omega (arith, so_far.1), more),
      omega (arith, within),
      omega (arith, within),
    )
