-- The set's keys are those of the map that it is.
use Rattle.rkyv_btree_convert.proofs.RoundTrip.{set_back}
use Rattle.rkyv_btree_convert.proofs.round_trip.sets_are_given_back.Goals as goal

pub returns : goal.returns
returns g c key =
    let K = g.K.Deserialize in
    let met = g.met.K.DeserializeKey in
    set_back g.K.Portable.kind g.row.E K.decoded K.model key met.total met.ordered_as_model
