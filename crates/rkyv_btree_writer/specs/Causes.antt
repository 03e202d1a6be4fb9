-- What ties the causes of faults that a type names to what archiving its values does.
use Rattle.std.specs.Prelude.{ℕ, IsTrue, ◌⊎◌, ◌↔◌, List, [], ◌++◌}
use Rattle.rkyv_btree_portable.specs.Bytes.{Holds}
use Rattle.rkyv_btree_writer.specs.Archiving.{Archival, IsTooLong}
use Rattle.rkyv_btree_writer.specs.Fields.{AllFit, AllInside, AllHeld, HasLong, lengths_of}
use Rattle.rkyv_btree_writer.specs.Writing.{Write}
use Rattle.rkyv_btree_writer.specs.declared.fault.EntryFault.{EntryFault}

-- from a position on, a value gives up by itself
abbrev pub GivesUp : {X R : Type 0} → Archival X R → X → ℕ → Type 0
GivesUp T x from = ((fault : EntryFault) × T.Refuses x from fault) ⊎ (IsTooLong T x ⊎ T.Grows x)

-- these writes are a beginning of those that a value makes from a position on; or it gives up
abbrev pub GoesOn : {X R : Type 0} → Archival X R → X → ℕ → List Write → Type 0
GoesOn {X} {R} T x from begun = ((more : List Write) × (r : R) × T.Writes x from (begun ++ more) r) ⊎ GivesUp T x from

pub record HasCauses {X R : Type 0} (T : Archival X R) : Type 0 where
  -- there are own bytes exactly where all that they tell fits, each field stands in them, and they hold it
  pub fits : (x : X) (r : R) (at : ℕ) → ((own : List ℕ) × T.Resolves x r at own) ↔ AllFit (T.fields x r at)
  pub inside : (x : X) (r : R) (at : ℕ) → AllInside at T.kind.size (T.fields x r at)
  pub held : (b : List ℕ) (x : X) (from at : ℕ) (writes : List Write) (r : R) (own : List ℕ) → T.IsIn x
      → T.Writes x from writes r → T.Resolves x r at own → Holds b at own → AllHeld b (T.fields x r at)
  -- a length that they tell and that is past 32 bits is one of the value's; and of what was written and resolved none is
  pub long : (x : X) (r : R) (at : ℕ) → HasLong (lengths_of (T.fields x r at)) → IsTooLong T x
  pub short : IsTrue T.kind.is_fitting → (x : X) (from at : ℕ) (writes : List Write) (r : R) (own : List ℕ)
      → T.Writes x from writes r → T.Resolves x r at own → IsTooLong T x → ⊥
  -- from each position on a value is written or gives up, and what it begins to write is a beginning of that
  pub goes : (x : X) (from : ℕ) → GoesOn T x from []
  pub begun : (x : X) (from : ℕ) (writes : List Write) → T.Begins x from writes → GoesOn T x from writes
