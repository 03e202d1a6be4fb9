-- The model of the list ends with the model of the entry.
use Rattle.rkyv_btree_convert.proofs.Puts.{model_pushed}
use Rattle.rkyv_btree_convert.proofs.native_map.push_entry.Goals as goal

pub returns-clause-ok : goal.returns-clause-ok
returns-clause-ok g c =
    let e = c.in_ok-entry.entry in (
      (g.K.Deserialize.model e.0, g.V.Deserialize.model e.1),
      c.in_ok-entry.ensures.ok,
      rw c.in-Ok.ensures.items (model_pushed g.K.Deserialize.model g.V.Deserialize.model c.args.entries.now.items e),
    )
