use Rattle.rkyv_btree_archive.proofs.OneArchival.{own_determined}
use Rattle.rkyv_btree_archive.proofs.floats.ordered_floats_are_determined.Goals as goal

pub returns : goal.returns
returns g c = own_determined _ _ _ _ _ (λ x y. g.T.Plain.Scalar.faithful.one_own x.0 y.0)
