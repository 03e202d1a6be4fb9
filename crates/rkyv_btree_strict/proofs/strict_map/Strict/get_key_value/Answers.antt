-- The view's lookup, in keys that increase.
use Rattle.rkyv_btree_strict.proofs.strict_map.Strict.get_key_value.Goals as goal

pub returns : goal.returns
returns g c = c.get_key_value.ensures.sorted c.args.self.increasing
