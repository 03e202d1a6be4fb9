-- Each entry gives itself, and where keys ascend, all of them stay.
use Rattle.rkyv_btree_convert.proofs.RoundTrip.{map_back}
use Rattle.rkyv_btree_convert.proofs.round_trip.maps_are_given_back.Goals as goal

pub returns : goal.returns
returns g c key value =
    let K = g.K.Deserialize in
    let V = g.V.Deserialize in
    let met = g.met.K.DeserializeKey in
    map_back g.K.Portable.kind g.V.Portable.kind g.row.E K.decoded V.decoded K.model V.model key value met.total met.ordered_as_model
