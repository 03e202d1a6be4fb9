-- The visit shows each key with its value, which the visitor passes over.
use Rattle.std.proofs.Common.{refl, rules}
use Rattle.rkyv_btree_walk.specs.Search.{shown_value}
use Rattle.rkyv_btree_view.proofs.Sets.{keys_visited}
use Rattle.rkyv_btree_view.proofs.view.View.visit_keys.Goals as goal

pub returns : goal.returns
returns g c =
    let K = g.K.Portable.kind in
    (_, keys_visited _ (goal.F-step g) _ (shown_value K g.W.Shows) (λ key value. refl) (λ y. y.0) (λ f key value outcome after called. let called_with_key : goal.F-step g f.0 key outcome after.0 = search rules in called_with_key) _ _ _ _ c.visit_on.ensures.1)
