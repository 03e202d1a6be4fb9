use Rattle.std.proofs.Common.{◌≡◌}
use Rattle.rkyv_btree_convert.specs.Maps.{last_wins}
use Rattle.btreekv_types.proofs.building.sorted.Given as goal

-- the map so far has the last values of the entries so far
abbrev pub invariant-loop-key : goal.invariant-loop-key
invariant-loop-key g l = l.sorted.entries ≡ last_wins g.K.Ord.cmp l.yielded
