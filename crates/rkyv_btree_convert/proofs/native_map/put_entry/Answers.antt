-- The model of the map takes the model of the entry.
use Rattle.rkyv_btree_convert.proofs.Puts.{model_put}
use Rattle.rkyv_btree_convert.proofs.native_map.put_entry.Goals as goal

pub returns-in-Ok-clause-ok : goal.returns-in-Ok-clause-ok
returns-in-Ok-clause-ok g c =
    let k = c.in_ok-key.key in
    let v = c.in_ok-key.value in (
      (g.K.Deserialize.model k, g.V.Deserialize.model v),
      c.in_ok-key.ensures.ok,
      rw c.in-Ok.ensures.entries (model_put g.K.Deserialize.model_order g.K.Deserialize.model g.V.Deserialize.model g.met.K.DeserializeKey.ordered_as_model k v c.args.map.now.entries),
    )
