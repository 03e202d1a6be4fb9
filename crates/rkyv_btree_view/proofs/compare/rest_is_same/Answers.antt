-- Entries that agree leave the test of both lists as it was.
use Rattle.std.proofs.Common.{◌≡◌, ◌∙◌, ◌&&◌, true, rules}
use Rattle.rkyv_btree_view.specs.View.{view_value}
use Rattle.rkyv_btree_view.proofs.Agreed.{agreed}
use Rattle.rkyv_btree_view.proofs.compare.rest_is_same.Goals as goal

pub loop-key-preserved : goal.loop-key-preserved
loop-key-preserved g c =
    let K = g.K.Portable.kind in
    let V = g.V.Portable.kind in
    let both : (K.same (view_value c.in-Some.key) (view_value c.in-Some-next.other_key) && V.same (view_value c.in-Some.value) (view_value c.in-Some-next.other_value)) ≡ true = search rules in
    agreed _ _ _ _ _ _ _ c.in-Some.ensures.steps c.in-Some-next.ensures.steps both ∙ c.loop-key.invariant
