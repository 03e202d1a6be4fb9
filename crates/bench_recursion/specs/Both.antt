-- One list built by two builders, each to a writer of its own.
use Rattle.rkyv_btree_writing_laws.specs.Entries.{now_of}
use Rattle.std.specs.Prelude.{◌≡◌, ℕ, ◌⊎◌, Option}
use Rattle.std.specs.Borrow.{Bor}
use Rattle.rkyv_btree_writing_laws.specs.Serialising.{BuildsTree, FailsToBuild}
use Rattle.rkyv_btree_portable.specs.Kind.{Kind}
use Rattle.rkyv_btree_writer.specs.Archiving.{Archival}
use Rattle.rkyv_btree_writer.specs.Writing.{Writing}
use Rattle.rkyv_btree_writer.specs.declared.fault.Fault.{Fault}

module _ {M N R S P Q : Type 0} (K V : Kind) (E : ℕ) (KA : Archival M R) (VA : Archival N S)
    (steps : P → Option (Bor M × Bor N) → P → Type 0) (iter : P) (claim : ℕ) (state : Q → Writing)
    (one one_after other other_after : Q) where
  -- the first builder failed, and the second wrote nothing
  abbrev pub FirstFails : {X : Type 0} → Fault X → Type 0
  FirstFails fault =
      FailsToBuild K V E KA VA now_of steps iter claim state one one_after fault × (state other_after ≡ state other)

  -- the first builder built the tree, and the second failed
  abbrev pub SecondFails : {X : Type 0} → Fault X → Type 0
  SecondFails fault =
      (root : ℕ) × BuildsTree K V E KA VA now_of steps iter claim state one one_after root
      × FailsToBuild K V E KA VA now_of steps iter claim state other other_after fault

  -- one of them failed
  abbrev pub EitherFails : {X : Type 0} → Fault X → Type 0
  EitherFails fault = FirstFails fault ⊎ SecondFails fault
