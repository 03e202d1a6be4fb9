-- What writes in place keep of a map whose keys increase.
use Rattle.std.specs.Prelude.{◌≡◌, ℕ, List, Bool, Option}
use Rattle.std.specs.Borrow.{MutBor}
use Rattle.std.specs.Map.{keys_of}
use Rattle.std.specs.declared.cmp.Ordering.{Ordering}
use Rattle.std.specs.declared.ops.ControlFlow.{ControlFlow}
use Rattle.rkyv_btree_portable.specs.Kind.{Kind}
use Rattle.rkyv_btree_seal.specs.Places.{PutsEntry, SetsFound}
use Rattle.rkyv_btree_seal.specs.Visits.{Visits}
use Rattle.rkyv_btree_seal.specs.declared.lent_key.LentKey.{LentKey}
use Rattle.rkyv_btree_seal.specs.declared.seal.Seal.{Seal}
use Rattle.rkyv_btree_strict.specs.Strict.{IsStrictMap}

module _ (K V : Kind) (E : ℕ) where
  -- the bytes at a position are a map with the keys of this list, which increase
  abbrev pub HasItsKeys : List (K.Value × V.Value) → List ℕ → ℕ → Type 0
  HasItsKeys m c at = (n : List (K.Value × V.Value)) × IsStrictMap K V E c at n × (keys_of n ≡ keys_of m)

  -- so after a write over the value of an entry
  abbrev pub PutsKeepStrict : Type 0
  PutsKeepStrict =
      (b c own : List ℕ) (at : ℕ) (e : ℕ × ℕ) (m : List (K.Value × V.Value)) → PutsEntry K V E b at e own c → IsStrictMap K V E b at m
      → HasItsKeys m c at

  -- after a write over the value that a lookup finds, if it finds one
  abbrev pub SetsKeepStrict : Type 0
  SetsKeepStrict =
      (b c own : List ℕ) (at : ℕ) (comparison : K.Value → Ordering) (found : Bool) (m : List (K.Value × V.Value)) → SetsFound K V E b at comparison own c found
      → IsStrictMap K V E b at m → HasItsKeys m c at

  -- and after a visit that may write over values
  abbrev pub VisitsKeepStrict : {X Y T F : Type 0} → (F → LentKey X → MutBor (Seal Y) → ControlFlow T (Unit {0}) → MutBor (Seal Y) → F → Type 0)
      → Type 0
  VisitsKeepStrict {T} {F} step =
      (b c : List ℕ) (at : ℕ) (es : List (ℕ × ℕ)) (first last : F) (result : Option T) (m : List (K.Value × V.Value))
      → Visits K V E at step es first b c result last → IsStrictMap K V E b at m → HasItsKeys m c at
