-- Portable types are lawful.
use Rattle.rkyv_btree_seal.proofs.Maps.{writes_values}
use Rattle.rkyv_btree_seal.proofs.edit_laws.writes_put_values.Goals as goal

pub returns : goal.returns
returns g c = writes_values g.K.Portable.kind g.V.Portable.kind g.row.E g.met.K.Portable.laws g.met.V.Portable.laws c.requires
