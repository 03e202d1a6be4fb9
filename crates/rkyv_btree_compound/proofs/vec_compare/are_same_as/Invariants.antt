-- What is left of both is the same exactly where both lists are.
use Rattle.std.proofs.Common.{◌≡◌, ℕ, Bool, List, drop}
use Rattle.std.specs.Cmp.Lexicographic.{pointwise}
use Rattle.rkyv_btree_compound.specs.VecLeft.{elements_left}
use Rattle.rkyv_btree_compound.proofs.vec_compare.are_same_as.Given as goal

abbrev pub invariant-loop-native : goal.invariant-loop-native
invariant-loop-native g l =
    (same : g.T.Portable.kind.Value → g.row.N.Denot → Bool) → ((n : g.row.N.Denot) (b : List ℕ) (at : ℕ) → g.T.SameAs.same_at n b at ≡ same (g.T.Portable.kind.read b at) n)
    → pointwise same (elements_left l.elements) (drop l.native-index l.natives) ≡ pointwise same (elements_left l.initial.elements) l.natives
