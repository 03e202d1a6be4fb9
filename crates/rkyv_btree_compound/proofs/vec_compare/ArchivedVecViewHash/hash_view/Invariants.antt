-- With what is left the hasher comes to where all elements take it.
use Rattle.std.proofs.Common.{◌≡◌}
use Rattle.std.specs.List.{flat_map, fold}
use Rattle.rkyv_btree_compound.specs.VecLeft.{elements_left}
use Rattle.rkyv_btree_compound.proofs.vec_compare.ArchivedVecViewHash.hash_view.Given as goal

abbrev pub invariant-loop-element : goal.invariant-loop-element
invariant-loop-element g l =
    let input = flat_map g.T.Portable.kind.hash_input in
    fold g.H.Hasher.write l.state (input (elements_left l.elements)) ≡ fold g.H.Hasher.write l.initial.state (input (elements_left l.initial.elements))
