-- What is left of both agrees exactly where both lists did.
use Rattle.std.proofs.Common.{◌≡◌, length}
use Rattle.std.specs.Cmp.Lexicographic.{pointwise}
use Rattle.rkyv_btree_portable.specs.Entry.{entry_kind}
use Rattle.rkyv_btree_view.specs.Iter.{entries_left}
use Rattle.rkyv_btree_view.proofs.compare.rest_is_same.Given as goal

abbrev pub invariant-loop-key : goal.invariant-loop-key
invariant-loop-key g l =
    let same = (entry_kind g.K.Portable.kind g.V.Portable.kind).same in
    pointwise same (entries_left l.left) (entries_left l.right) ≡ pointwise same (entries_left l.initial.left) (entries_left l.initial.right)

abbrev pub decreases-loop-key : goal.decreases-loop-key
decreases-loop-key g l = length (entries_left l.left)
