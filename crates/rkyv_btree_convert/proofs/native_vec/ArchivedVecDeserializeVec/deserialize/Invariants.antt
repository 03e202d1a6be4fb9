-- With what is left the list comes to what the whole vector gives.
use Rattle.std.proofs.Common.{◌≡◌, map}
use Rattle.rkyv_btree_compound.specs.VecLeft.{elements_left}
use Rattle.rkyv_btree_convert.proofs.VectorsMade.{Come}
use Rattle.rkyv_btree_convert.proofs.native_vec.ArchivedVecDeserializeVec.deserialize.Given as goal

abbrev pub invariant-loop-element : goal.invariant-loop-element
invariant-loop-element g l =
    let give = g.met.T.Deserialize.by_meaning.of_value in
    let model = g.T.Deserialize.model in
    Come give (map model l.natives.items) (elements_left l.elements) ≡ Come give (map model l.initial.natives.items) (elements_left l.initial.elements)
