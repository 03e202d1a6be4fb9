-- What is left of both agrees exactly where both lists did.
use Rattle.std.proofs.Common.{◌≡◌, length}
use Rattle.std.specs.Cmp.Lexicographic.{pointwise}
use Rattle.rkyv_btree_compound.specs.VecLeft.{elements_left}
use Rattle.rkyv_btree_compound.proofs.vec_compare.rest_is_same.Given as goal

abbrev pub invariant-loop-element : goal.invariant-loop-element
invariant-loop-element g l =
    let same = g.T.Portable.kind.same in
    pointwise same (elements_left l.left) (elements_left l.right) ≡ pointwise same (elements_left l.initial.left) (elements_left l.initial.right)

abbrev pub decreases-loop-element : goal.decreases-loop-element
decreases-loop-element g l = length (elements_left l.left)
