-- The model of keys is ordered.
use Rattle.rkyv_btree_convert.proofs.LastWins.{counts_last}
use Rattle.rkyv_btree_convert.proofs.native_map.last_values_count.Goals as goal

pub returns : goal.returns
returns g c entries = counts_last g.met.K.DeserializeKey.total entries
