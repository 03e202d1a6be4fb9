-- The model of the set are the keys of what all entries make in turn.
use Rattle.std.proofs.Common.{ap, rules, sym, ◌∙◌}
use Rattle.std.proofs.lemmas.Iterator.{YieldsList-from_map}
use Rattle.std.proofs.lemmas.Iterator.Consumers.{YieldsList-at}
use Rattle.std.proofs.lemmas.Iterator.Adapters.{fact_from_collect, YieldsList-from_vec}
use Rattle.std.specs.BTreeSet.{IsFromIterResult}
use Rattle.std.specs.Map.{keys_of}
use Rattle.std.specs.Prelude.{Ok}
use Rattle.std.specs.Result.{result_map_both}
use Rattle.rkyv_btree_convert.specs.Maps.{last_wins}
use Rattle.rkyv_btree_convert.proofs.AtOnce.{keys_at_once}
use Rattle.rkyv_btree_convert.proofs.Units.{still_refused, units_model}
use Rattle.rkyv_btree_convert.proofs.native_set.at_once.Goals as goal

pub returns-in-Ok-clause-ok : goal.returns-in-Ok-clause-ok
returns-in-Ok-clause-ok g c =
    let es = c.in_ok-entries.entries.items in
    let made = fact_from_collect {E = Unit {0}} (IsFromIterResult g.T.Ord.cmp) (Ok c.in-Ok.set) c.in-Ok.ensures.ran
    (YieldsList-from_map _ (λ e. e.0) (YieldsList-at c.map.ensures.source (YieldsList-from_vec es c.into_iter.ensures.rest (c.into_iter.ensures.len ∙ c.in_ok-entries.entries.ok.0))) c.map.ensures.closure (λ x r q k. search rules)) in
    let given = rw (c.as_map.ensures.buffer, c.as_map.ensures.position) at c.in_ok-entries.ensures.ok in
    ap (result_map_both keys_of (λ fault. fault)) (ap (result_map_both (last_wins g.K.Deserialize.model_order) (λ fault. fault)) given)
    ∙ ap (λ es. Ok (keys_of es)) (sym (keys_at_once g.K.Deserialize.model g.met.K.DeserializeKey.total g.met.K.DeserializeKey.ordered_as_model c.requires es c.in-Ok.set made))
    ∙ ap Ok (units_model g.K.Deserialize.model c.in-Ok.set.keys)

pub returns-in_err-entries-clause-refused : goal.returns-in_err-entries-clause-refused
returns-in_err-entries-clause-refused g c =
    let refused = rw (c.as_map.ensures.buffer, c.as_map.ensures.position) at c.in_err-entries.ensures.refused in
    let map_refused = still_refused (last_wins g.K.Deserialize.model_order) _ _ refused in
    let set_refused = still_refused keys_of _ _ map_refused in
    search rules
