-- What a visitor was called with.
use Rattle.std.specs.Prelude.{◌≡◌, List, [], ◌∷◌, Option, Some, None}
use Rattle.std.specs.declared.ops.ControlFlow.{ControlFlow}
use Rattle.std.specs.declared.ops.ControlFlow.TheVariants.{Continue, Break}
use Rattle.rkyv_btree_portable.specs.Kind.{Kind}
use Rattle.rkyv_btree_walk.specs.declared.shows.Shows

-- what two views read, of which each says where it stands
abbrev pub shown_both : (K V : Kind) {R S W X : Type 0} → Shows.Ghosts W R → Shows.Ghosts X S → W → X → K.Value × V.Value
shown_both K V ws xs w x = (K.read (ws.bytes w) (ws.place w), V.read (xs.bytes x) (xs.place x))

-- what follows a result of the visitor: at `Continue` the rest, at `Break` nothing, and its value is the result
abbrev pub AfterOutcome : {F T : Type 0} → ControlFlow T (Unit {0}) → (F → Type 0) → F → Option T → F → Type 0
AfterOutcome (Continue u) goes_on after result last = goes_on after
AfterOutcome (Break value) goes_on after result last = (result ≡ Some value) × (last ≡ after)

module _ {F W X Y T : Type 0} (call : F → W → X → ControlFlow T (Unit {0}) → F → Type 0) (means : W → X → Y) where
  -- the visitor was called at each entry of the list in turn, up to the first that it broke off at, and went from
  -- `first` to `last`
  abbrev pub Visits : F → List Y → Option T → F → Type 0
  Visits first [] result last = (result ≡ None) × (last ≡ first)
  Visits first (e ∷ es) result last = (key : W) × (value : X) × (outcome : ControlFlow T (Unit {0})) × (after : F) × (means key value ≡ e)
      × call first key value outcome after × AfterOutcome outcome (λ f. Visits f es result last) after result last

  -- such calls were made, whatever the visitor went to
  abbrev pub Visited : F → List Y → Option T → Type 0
  Visited first es result = (last : F) × Visits first es result last

-- the value of a break
abbrev pub broken : {T : Type 0} → ControlFlow T (Unit {0}) → Option T
broken (Continue u) = None
broken (Break value) = Some value

abbrev pub or_else : {T : Type 0} → Option T → Option T → Option T
or_else None other = other
or_else (Some value) other = Some value

-- the first value that `gives` has at an entry of the list
abbrev pub first_given : {Y T : Type 0} → (Y → Option T) → List Y → Option T
first_given gives [] = None
first_given gives (e ∷ es) = or_else (gives e) (first_given gives es)
