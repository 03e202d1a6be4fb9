-- A map that was written after a tree is appended.
use Rattle.std.proofs.Common.{ℕ, Result, Ok, Err, IfOk, arith}
use Rattle.rkyv_btree_writing_laws.specs.Building.{IsRootWritten}
use Rattle.rkyv_btree_writer.specs.declared.fault.Fault.{Fault}
use Rattle.rkyv_btree_writing_laws.specs.Kept.{OnlyAppended}
use Rattle.rkyv_btree_writer.specs.Writing.{Writing}
use Rattle.rkyv_btree_writing_laws.proofs.MapsWritten.{root_end}
use Rattle.rkyv_btree_strict.proofs.Migrated.{then_appended}
use Rattle.rkyv_btree_update.specs.Written.{IsAppended}

pub map_appended : {F : Type 0} (result : Result ℕ (Fault F)) (from mid to : Writing) (root n : ℕ) → OnlyAppended from mid
    → IfOk result (IsRootWritten n root mid to) → IfOk result (λ at. IsAppended from at to)
map_appended (Err fault) from mid to root n went done = tt
map_appended (Ok at) from mid to root n went done = record {
  end = omega (arith, done.pos, root_end mid to root n done.wrote);
  went = then_appended from mid to went done.went;
}
