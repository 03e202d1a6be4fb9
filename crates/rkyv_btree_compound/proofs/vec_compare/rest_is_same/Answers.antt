-- Elements that agree leave the test of both lists as it was.
use Rattle.std.proofs.Common.{◌≡◌, ◌∙◌, true, rules}
use Rattle.rkyv_btree_view.specs.View.{view_value}
use Rattle.rkyv_btree_view.proofs.Agreed.{agreed}
use Rattle.rkyv_btree_compound.proofs.vec_compare.rest_is_same.Goals as goal

pub loop-element-preserved : goal.loop-element-preserved
loop-element-preserved g c =
    let both : g.T.Portable.kind.same (view_value c.in-Some.element) (view_value c.in-Some-next.other) ≡ true = search rules in
    agreed _ _ _ _ _ _ _ c.in-Some.ensures.steps c.in-Some-next.ensures.steps both ∙ c.loop-element.invariant
