use Rattle.std.proofs.Common.{take}
use Rattle.std.specs.List.{range_with_len}
use Rattle.rkyv_btree_ffi.specs.mirror.Natives.{AreGiven, IsRow}
use Rattle.rkyv_btree_ffi.proofs.building.native_rows.Given as goal

-- the rows so far have these native values
abbrev pub invariant-rows : goal.invariant-rows
invariant-rows g l = AreGiven (IsRow g.K.Given.IsCell g.V.Given.IsCell l.keys l.values) (g.K.Given.CellGives l.keys) (g.V.Given.CellGives l.values) (take l.index (range_with_len 0 l.len)) l.natives.items
