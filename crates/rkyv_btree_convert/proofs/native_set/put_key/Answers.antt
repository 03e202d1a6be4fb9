-- The model of the set takes the model of the key.
use Rattle.std.proofs.Common.{refl}
use Rattle.rkyv_btree_format.specs.Units.{with_units}
use Rattle.rkyv_btree_convert.proofs.Puts.{model_put}
use Rattle.rkyv_btree_convert.proofs.Units.{put_unit}
use Rattle.rkyv_btree_convert.proofs.native_set.put_key.Goals as goal

pub returns-clause-ok : goal.returns-clause-ok
returns-clause-ok g c =
    let k = c.in_ok-key.key in
    let key = c.in_ok-key.ensures.ok in
    let old = c.args.set.now.keys in (
      (g.K.Deserialize.model k, tt),
      rw key refl,
      rw (c.in-Ok.ensures.keys, put_unit g.T.Ord.cmp k old) (model_put g.K.Deserialize.model_order g.K.Deserialize.model (λ unit. unit) g.met.K.DeserializeKey.ordered_as_model k tt (with_units old)),
    )
