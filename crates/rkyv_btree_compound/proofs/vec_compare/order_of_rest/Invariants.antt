-- What is left of both is ordered as both lists are.
use Rattle.std.proofs.Common.{◌≡◌, length}
use Rattle.std.specs.Cmp.Lexicographic.{slice_cmp}
use Rattle.rkyv_btree_compound.specs.VecLeft.{elements_left}
use Rattle.rkyv_btree_compound.proofs.vec_compare.order_of_rest.Given as goal

abbrev pub invariant-loop-element : goal.invariant-loop-element
invariant-loop-element g l =
    let order = g.T.Portable.kind.order in
    slice_cmp order (elements_left l.left) (elements_left l.right) ≡ slice_cmp order (elements_left l.initial.left) (elements_left l.initial.right)

abbrev pub decreases-loop-element : goal.decreases-loop-element
decreases-loop-element g l = length (elements_left l.left)
