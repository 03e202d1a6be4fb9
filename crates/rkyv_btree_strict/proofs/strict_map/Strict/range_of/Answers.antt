-- The view's range, in keys that increase.
use Rattle.rkyv_btree_strict.proofs.strict_map.Strict.range_of.Goals as goal

pub returns-clause-within : goal.returns-clause-within
returns-clause-within g c known comparison agree = (c.range_of.ensures.between known comparison agree).sorted c.args.self.increasing
