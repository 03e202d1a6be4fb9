-- The model of the map is what all entries make in turn.
use Rattle.std.proofs.Common.{ap, sym, ◌∙◌}
use Rattle.std.proofs.lemmas.Iterator.Adapters.{fact_from_collect, YieldsList-from_vec}
use Rattle.std.specs.BTreeMap.{IsFromIterResult}
use Rattle.std.specs.Prelude.{Ok}
use Rattle.std.specs.Result.{result_map_both}
use Rattle.rkyv_btree_convert.specs.Maps.{last_wins}
use Rattle.rkyv_btree_convert.proofs.AtOnce.{made_at_once}
use Rattle.rkyv_btree_convert.proofs.native_map.at_once.Goals as goal

pub returns-in-Ok-clause-ok : goal.returns-in-Ok-clause-ok
returns-in-Ok-clause-ok g c =
    let made = fact_from_collect {E = Unit {0}} (IsFromIterResult g.T.Ord.cmp) (Ok c.in-Ok.map) c.in-Ok.ensures.ran (YieldsList-from_vec c.in_ok-entries.entries.items c.into_iter.ensures.rest (c.into_iter.ensures.len ∙ c.in_ok-entries.entries.ok.0)) in
    ap (result_map_both (last_wins g.K.Deserialize.model_order) (λ fault. fault)) c.in_ok-entries.ensures.ok
    ∙ ap Ok (sym (made_at_once g.K.Deserialize.model g.V.Deserialize.model g.met.K.DeserializeKey.total g.met.K.DeserializeKey.ordered_as_model c.requires c.in_ok-entries.entries.items c.in-Ok.map.entries made.0 made.1))
