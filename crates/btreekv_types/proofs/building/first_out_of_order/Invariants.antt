use Rattle.std.proofs.Common.{take}
use Rattle.rkyv_btree_format.specs.Increasing.{Increasing}
use Rattle.btreekv_types.proofs.building.first_out_of_order.Given as goal

-- the keys so far increase
abbrev pub invariant-entries : goal.invariant-entries
invariant-entries g l = Increasing g.K.Ord.cmp (take l.index l.entries)
