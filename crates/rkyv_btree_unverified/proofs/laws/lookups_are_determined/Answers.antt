-- A lookup returns one thing, and what it finds is valid.
use Rattle.rkyv_btree_format.proofs.Sizes.{room_of}
use Rattle.rkyv_btree_unverified.proofs.Exact.{one_lookup}
use Rattle.rkyv_btree_unverified.proofs.Valid.{lookup_valid}
use Rattle.rkyv_btree_unverified.proofs.laws.lookups_are_determined.Goals as goal

pub returns-clause-one : goal.returns-clause-one
returns-clause-one g c b comparison at r s h m =
    let K = g.K.Portable.kind in let V = g.V.Portable.kind in
    let room = room_of K V g.row.E g.met.K.Portable.laws g.met.V.Portable.laws c.requires in
    one_lookup K V g.row.E b comparison g.K.CheckBytes.Refuses g.V.CheckBytes.Refuses g.met.K.Portable.laws g.met.V.Portable.laws (g.met.K.CheckBytes.refusals room.key) (g.met.V.CheckBytes.refusals room.value) at r s h m

pub returns-clause-valid : goal.returns-clause-valid
returns-clause-valid g c b comparison at e h = lookup_valid g.K.Portable.kind g.V.Portable.kind g.row.E b comparison g.K.CheckBytes.Refuses g.V.CheckBytes.Refuses e at h
