-- What the calls of a closure along the entries of a map make of it.
use Rattle.std.specs.Borrow.{MutBor}
use Rattle.std.specs.Prelude.{◌≡◌, ℕ, List, [], ◌∷◌, Option, Some, None}
use Rattle.std.specs.declared.ops.ControlFlow.{ControlFlow}
use Rattle.std.specs.declared.ops.ControlFlow.TheVariants.{Continue, Break}
use Rattle.rkyv_btree_portable.specs.Kind.{Kind}
use Rattle.rkyv_btree_seal.specs.Calls.{CallsEntry, MayCallEach}
use Rattle.rkyv_btree_seal.specs.declared.lent_key.LentKey.{LentKey}
use Rattle.rkyv_btree_seal.specs.declared.seal.Seal.{Seal}

-- after a call: a break ends the visit with its value, and else the rest is visited
abbrev pub Goes : {T : Type 0} → ControlFlow T (Unit {0}) → Option T → Type 0 → Type 0 → Type 0
Goes (Break t) r ends rest = (r ≡ Some t) × ends
Goes (Continue u) r ends rest = rest

module _ {X Y T F : Type 0} (K V : Kind) (E : ℕ) (at : ℕ)
    (step : F → LentKey X → MutBor (Seal Y) → ControlFlow T (Unit {0}) → MutBor (Seal Y) → F → Type 0) where
  -- f is called at these entries of the map in b, one after the other, up to the first call that breaks, whose value is r:
  -- this leaves the buffer c, and f as last
  abbrev pub Visits : List (ℕ × ℕ) → F → List ℕ → List ℕ → Option T → F → Type 0
  Visits [] f b c r last = (c ≡ b) × (r ≡ None) × (last ≡ f)
  Visits (e ∷ es) f b c r last =
      (outcome : ControlFlow T (Unit {0})) × (left : List ℕ) × (g : F)
      × CallsEntry K V E b at left (λ k s a t. step f k s a t g) e outcome
      × Goes outcome r ((c ≡ left) × (last ≡ g)) (Visits es g left c r last)

  -- at each entry of the map f may be called in any state, and leaves some value in the seal
  abbrev pub MayVisit : (F → LentKey X → MutBor (Seal Y) → Type 0) → List ℕ → Type 0
  MayVisit pre b = (f : F) → MayCallEach K V E b at (λ k s. pre f k s) (λ k s a t. (g : F) × step f k s a t g)
