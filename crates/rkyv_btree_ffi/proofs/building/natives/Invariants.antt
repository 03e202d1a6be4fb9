use Rattle.std.proofs.Common.{take}
use Rattle.rkyv_btree_ffi.specs.mirror.Natives.{AreGiven, IsOfBoth}
use Rattle.rkyv_btree_ffi.proofs.building.natives.Given as goal

-- the entries so far have these native values
abbrev pub invariant-entries : goal.invariant-entries
invariant-entries g l = AreGiven (IsOfBoth g.K.Given.IsItem g.V.Given.IsItem l.texts) (λ e. g.K.Given.Gives l.texts e.key) (λ e. g.V.Given.Gives l.texts e.value) (take l.index l.entries) l.natives.items
