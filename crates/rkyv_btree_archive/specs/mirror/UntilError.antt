-- The items of an iterator of results up to its first error, which is kept, and what building from them returns.
use Rattle.std.specs.Prelude.{◌≡◌, ◌⊎◌, Option, None, Some, Result, Ok, Err}
use Rattle.rkyv_btree_writer.specs.declared.fault.Fault.{Fault}
use Rattle.rkyv_btree_writer.specs.declared.fault.Fault.TheVariants.{Length}
use Rattle.rkyv_btree_archive.specs.declared.try_build.TryFault.{TryFault}
use Rattle.rkyv_btree_archive.specs.declared.try_build.TryFault.TheVariants.{Item, Build}
use Rattle.rkyv_btree_archive.specs.declared.try_build.UntilError.{UntilError}

-- an item is given where the iterator gives one, and none where it gives none or an error
module _ {I X P : Type 0} (steps : P → Option (Result I X) → P → Type 0) where
  abbrev pub GivesUntilError : UntilError P X → Option I → UntilError P X → Type 0
  GivesUntilError s None t =
      (steps s.items None t.items × (t.error ≡ s.error))
      ⊎ ((x : X) × steps s.items (Some (Err x)) t.items × (t.error ≡ Some x))
  GivesUntilError s (Some x) t = steps s.items (Some (Ok x)) t.items × (t.error ≡ s.error)

-- the error of building where an item failed: that of the item, if too few or too many items were counted
abbrev pub met_fault : {W X : Type 0} → X → Fault W → TryFault W X
met_fault error (Length m) = Item error
met_fault error fault = Build fault

abbrev pub tried_fault : {W X : Type 0} → Option X → Fault W → TryFault W X
tried_fault None fault = Build fault
tried_fault (Some error) fault = met_fault error fault

-- what building returned, where the iterator may have failed
abbrev pub tried : {R W X : Type 0} → Option X → Result R (Fault W) → Result R (TryFault W X)
tried None (Ok root) = Ok root
tried (Some error) (Ok root) = Err (Item error)
tried error (Err fault) = Err (tried_fault error fault)
