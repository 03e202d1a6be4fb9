-- A map that is accepted stands, and what is accepted is what is read.
use Rattle.std.proofs.Common.{sym}
use Rattle.rkyv_btree_verify.proofs.MapLaws.{map_laws}
use Rattle.rkyv_btree_portable.specs.laws.Views.{stands_of}
use Rattle.rkyv_btree_view.proofs.map_view.access_valid.Goals as goal

pub invariant_of-result : goal.invariant_of-result
invariant_of-result g c =
    let a = c.requires.accepted in
    record { valid = stands_of (map_laws g.K.Portable.kind g.V.Portable.kind g.row.E g.met.K.Portable.laws g.met.V.Portable.laws) c.requires.fitting _ _ _ _ _ _ a.1.1 }

pub returns-clause-value : goal.returns-clause-value
returns-clause-value g c = λ m a.
    sym ((map_laws g.K.Portable.kind g.V.Portable.kind g.row.E g.met.K.Portable.laws g.met.V.Portable.laws).is_read _ _ _ _ _ _ a.1)
