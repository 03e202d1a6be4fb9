-- A lookup in an accepted map returns one place.
use Rattle.rkyv_btree_format.proofs.Sizes.{room_of}
use Rattle.rkyv_btree_format.specs.Layout.{layout_of}
use Rattle.rkyv_btree_unverified.proofs.Found.{as_checked}
use Rattle.rkyv_btree_unverified.proofs.OnMaps.{lookup_is}
use Rattle.rkyv_btree_walk.specs.mirror.Search.{comparison_at, searched_map}
use Rattle.std.proofs.Common.{refl}
use Rattle.rkyv_btree_unverified.proofs.laws.maps_are_searched.Goals as goal

pub returns : goal.returns
returns g c b comparison at m r map gives =
    let K = g.K.Portable.kind in let V = g.V.Portable.kind in let E = g.row.E in
    let room = room_of K V E g.met.K.Portable.laws g.met.V.Portable.laws c.requires in
    let is = lookup_is K V E b comparison g.K.CheckBytes.Refuses g.V.CheckBytes.Refuses g.met.K.Portable.laws g.met.V.Portable.laws (g.met.K.CheckBytes.refusals room.key) (g.met.V.CheckBytes.refusals room.value) c.requires at m map r gives in
    ((searched_map (layout_of K V E) b (comparison_at K V E b comparison) at).0, is, as_checked K V E b comparison at (searched_map (layout_of K V E) b (comparison_at K V E b comparison) at).0 _ refl refl)
