use Rattle.rkyv_btree_archive.proofs.JoinedResolved.{front_determined, tuple_determined}
use Rattle.rkyv_btree_archive.proofs.tuples.tuples4_are_determined.Goals as goal

pub returns : goal.returns
returns g c first second third fourth = tuple_determined (front_determined (front_determined first second) third) fourth (λ x. (((x.0, x.1), x.2), x.3))
