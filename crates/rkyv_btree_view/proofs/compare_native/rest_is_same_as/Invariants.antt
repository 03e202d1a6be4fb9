-- What is left of both agrees exactly where both lists did.
use Rattle.std.proofs.Common.{◌≡◌, length}
use Rattle.std.specs.Cmp.Lexicographic.{pointwise}
use Rattle.rkyv_btree_view.specs.Iter.{entries_left}
use Rattle.rkyv_btree_view.specs.SameAs.{ByTests}
use Rattle.rkyv_btree_view.proofs.compare_native.rest_is_same_as.Given as goal

abbrev pub invariant-loop-key : goal.invariant-loop-key
invariant-loop-key g l =
    ByTests g.K.Portable.kind g.V.Portable.kind g.K.SameAs.same_at g.V.SameAs.same_at (λ same. pointwise same (entries_left l.entries) l.natives ≡ pointwise same (entries_left l.initial.entries) l.initial.natives)

abbrev pub decreases-loop-key : goal.decreases-loop-key
decreases-loop-key g l = length (entries_left l.entries)
