-- Portable types are lawful.
use Rattle.rkyv_btree_seal.proofs.Apart.{values_apart}
use Rattle.rkyv_btree_seal.proofs.edit_laws.values_are_apart.Goals as goal

pub returns : goal.returns
returns g c = values_apart g.K.Portable.kind g.V.Portable.kind g.row.E g.met.K.Portable.laws g.met.V.Portable.laws c.requires
