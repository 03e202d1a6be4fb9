use Rattle.std.proofs.Common.{◌∙◌, arith}
use Rattle.rkyv_btree_format.specs.Layout.{layout_of}
use Rattle.rkyv_btree_verify.proofs.Loops.{entries_step}
use Rattle.rkyv_btree_verify.proofs.verify.check_entries.Goals as goal

pub loop-i-preserved : goal.loop-i-preserved
loop-i-preserved g c = (
  entries_step (layout_of g.K.Portable.kind g.V.Portable.kind g.row.E) g.K.Portable.kind.leaves g.V.Portable.kind.leaves _ _ _ _ _ _ c.loop-i-test.true c.in_ok-left.ensures.gives ∙ c.loop-i.invariant.0,
  omega (arith, c.in_ok-left.ensures.within),
  omega (arith, c.in_ok-left.ensures.within),
)
