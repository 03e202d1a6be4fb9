use Rattle.std.proofs.Common.{◌≡◌}
use Rattle.rkyv_btree_update.specs.Updated.{updated}
use Rattle.btreekv_types.proofs.updating.make_changes.Given as goal

-- the changes so far are made
abbrev pub invariant-loop-key : goal.invariant-loop-key
invariant-loop-key g l = l.map.entries ≡ updated g.T.Ord.cmp l.fn.map.entries l.yielded
