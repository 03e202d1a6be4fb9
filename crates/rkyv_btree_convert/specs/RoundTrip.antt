-- Values that are archived and made native again.
use Rattle.std.specs.Prelude.{◌≡◌, ℕ, List, map, Result, Ok}
use Rattle.std.specs.declared.vec.Vec.{Vec}
use Rattle.rkyv_btree_writer.specs.declared.fault.EntryFault.{EntryFault}
use Rattle.rkyv_btree_portable.specs.Kind.{Kind}

module _ {X H : Type 0} (kind : Kind) (meaning : X → kind.Value) (native : List ℕ → ℕ → Result H EntryFault) (model : X → H) where
  -- wherever bytes mean what a value means, they give the value: its model
  abbrev pub IsGivenBack : X → Type 0
  IsGivenBack x = (b : List ℕ) (at : ℕ) → kind.read b at ≡ meaning x → native b at ≡ Ok (model x)

  -- so it is with each value
  abbrev pub GivesBack : Type 0
  GivesBack = (x : X) → IsGivenBack x

-- so it is with each value, and each is what it means
abbrev pub GivesItselfBack : (kind : Kind) → (List ℕ → ℕ → Result kind.Value EntryFault) → Type 0
GivesItselfBack kind native = GivesBack kind (λ x. x) native (λ x. x)

-- what entries mean, by what their keys and values mean
abbrev pub both_mean : {T U A B : Type 0} → (T → A) → (U → B) → List (T × U) → List (A × B)
both_mean key value entries = map (λ e. (key e.0, value e.1)) entries

-- the bytes of a native byte string
abbrev pub items_of : {A : Type 0} → Vec ℕ A → List ℕ
items_of bytes = bytes.items
