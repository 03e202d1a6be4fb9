-- The faults of building, with the state of the iterator after them and without it.
use Rattle.std.proofs.Common.{◌≡◌, ℕ, Option, Result, Ok, Err, IfErr, IsErrOf, refl}
use Rattle.std.specs.Prelude.{alloc_error}
use Rattle.rkyv_btree_portable.specs.Kind.{Kind}
use Rattle.rkyv_btree_writer.specs.Archiving.{Archival}
use Rattle.rkyv_btree_writer.specs.Writing.{Writing}
use Rattle.rkyv_btree_writer.specs.declared.fault.Fault.{Fault}
use Rattle.rkyv_btree_writer.specs.declared.fault.Fault.TheVariants.{Length, LengthOverflow, PositionOverflow, OffsetOverflow, Writer, Memory, Entry, OutOfOrder}
use Rattle.rkyv_btree_writer.specs.declared.fault.IteratorLengthMismatch.{IteratorLengthMismatch}
use Rattle.rkyv_btree_writing_laws.specs.Kept.{NeverGrows}
use Rattle.rkyv_btree_writing_laws.specs.Serialising.{BuildFault}
use Rattle.rkyv_btree_archive.specs.mirror.Ended.{FaultAt, IsUnbuiltAt}

module _ {I M N R S P : Type 0} (K V : Kind) (E : ℕ) (KA : Archival M R) (VA : Archival N S) (borrowed : I → M × N) (steps : P → Option I → P → Type 0) {X : Type 0} (iter : P) (claim : ℕ) (from : Writing) where
  pub fault_of_ended : (fault : Fault X) (end : P) (t : Writing) → FaultAt K V E KA VA borrowed steps iter claim from fault end t → BuildFault K V E KA VA borrowed steps iter claim from fault t
  fault_of_ended (Length m) end t h = h.0
  fault_of_ended LengthOverflow end t h = h
  fault_of_ended PositionOverflow end t h = h
  fault_of_ended OffsetOverflow end t h = h
  fault_of_ended (Writer error) end t h = h
  fault_of_ended (Memory error) end t h = h
  fault_of_ended (Entry fault) end t h = h
  fault_of_ended (OutOfOrder index) end t h = h

  -- where the count isn't the fault, the state is any
  pub ended_of_fault : (fault : Fault X) (end : P) (t : Writing) → ((m : IteratorLengthMismatch) → fault ≡ Length m → ⊥) → BuildFault K V E KA VA borrowed steps iter claim from fault t → FaultAt K V E KA VA borrowed steps iter claim from fault end t
  ended_of_fault (Length m) end t other h = absurd (other m refl)
  ended_of_fault LengthOverflow end t other h = h
  ended_of_fault PositionOverflow end t other h = h
  ended_of_fault OffsetOverflow end t other h = h
  ended_of_fault (Writer error) end t other h = h
  ended_of_fault (Memory error) end t other h = h
  ended_of_fault (Entry fault) end t other h = h
  ended_of_fault (OutOfOrder index) end t other h = h

  -- after a fault of memory nothing has changed
  pub unbuilt_memory : {Root : Type 0} (result : Result Root (Fault X)) (end : P) (t : Writing) → IfErr result (IsUnbuiltAt K V E KA VA borrowed steps iter claim from end t) → NeverGrows KA → NeverGrows VA → IsErrOf result (Memory alloc_error) → t ≡ from
  unbuilt_memory (Ok root) end t h keys values is = absurd (cc (is))
  unbuilt_memory (Err fault) end t h keys values is = h.memory keys values (cc (is))
