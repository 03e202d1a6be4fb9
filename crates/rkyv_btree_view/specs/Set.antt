-- Sets as views read them: the keys of a map whose values are (). `comparison` is what comparing the query with a key gives, at
-- each key.
use Rattle.std.specs.Prelude.{◌≡◌, ℕ, List, [], ◌∷◌, map, Option, None, ◌↔◌}
use Rattle.std.specs.Option.{option_map}
use Rattle.std.specs.declared.cmp.Ordering.{Ordering}
use Rattle.std.specs.declared.ops.Bound.{Bound}
use Rattle.std.specs.declared.ops.Bound.TheVariants.{Included, Excluded, Unbounded}
use Rattle.std.specs.declared.ops.ControlFlow.{ControlFlow}
use Rattle.rkyv_btree_portable.specs.Kind.{Kind}
use Rattle.rkyv_btree_portable.specs.Scalars.{unit_kind}
use Rattle.rkyv_btree_portable.specs.declared.check.Portable
use Rattle.rkyv_btree_walk.specs.Bounds.{keys_within}
use Rattle.rkyv_btree_walk.specs.Search.{OrderedBy, AnyHit}
use Rattle.rkyv_btree_walk.specs.Visit.{AfterOutcome}
use Rattle.rkyv_btree_view.specs.Lookup.{found_in}
use Rattle.rkyv_btree_view.specs.View.{entries_of}
use Rattle.rkyv_btree_view.specs.declared.view.View.{View}

module _ (K : Kind) (E : ℕ) {S : Type 0} {s : Portable.Ghosts S} (view : View S s) where
  -- the keys of a view's set, of these keys and E, in order
  abbrev pub keys_of : List K.Value
  keys_of = map (λ e. e.0) (entries_of K unit_kind E view)

  -- the key that a search of a view's set asks and finds equal
  abbrev pub key_in : (K.Value → Ordering) → Option K.Value
  key_in comparison = option_map (λ e. e.0) (found_in K unit_kind E view comparison)

  -- under an ordered comparison it says that there is a key exactly where some key is equal
  abbrev pub IsCompleteOnKeys : (K.Value → Ordering) → Type 0 → Type 0
  IsCompleteOnKeys comparison Found = OrderedBy comparison keys_of → (Found ↔ AnyHit comparison keys_of)

module _ {A : Type 0} where
  -- the keys are ordered for the query of a bound, if it has one
  abbrev pub KeysOrderedFor : Bound (A → Ordering) → List A → Type 0
  KeysOrderedFor Unbounded all = Unit {0}
  KeysOrderedFor (Included comparison) all = OrderedBy comparison all
  KeysOrderedFor (Excluded comparison) all = OrderedBy comparison all

  -- these keys are all that are within both bounds, where the keys are ordered for both
  abbrev pub AreKeysWithin : Bound (A → Ordering) → Bound (A → Ordering) → List A → List A → Type 0
  AreKeysWithin low high all range = KeysOrderedFor low all → KeysOrderedFor high all → range ≡ keys_within low high all

module _ {F W Y T : Type 0} (call : F → W → ControlFlow T (Unit {0}) → F → Type 0) (means : W → Y) where
  -- the visitor was called at each key of the list in turn, up to the first that it broke off at, and went from `first` to
  -- `last`
  abbrev pub VisitsKeys : F → List Y → Option T → F → Type 0
  VisitsKeys first [] result last = (result ≡ None) × (last ≡ first)
  VisitsKeys first (k ∷ ks) result last = (key : W) × (outcome : ControlFlow T (Unit {0})) × (after : F) × (means key ≡ k)
      × call first key outcome after × AfterOutcome outcome (λ f. VisitsKeys f ks result last) after result last

  -- such calls were made, whatever the visitor went to
  abbrev pub VisitedKeys : F → List Y → Option T → Type 0
  VisitedKeys first ks result = (last : F) × VisitsKeys first ks result last
