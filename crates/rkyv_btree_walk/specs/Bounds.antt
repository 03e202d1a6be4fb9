-- Which entries are within two bounds. A bound holds what its query's comparison gives at each key: at Greater it is past the key.
use Rattle.std.specs.Prelude.{◌≡◌, ℕ, ◌+◌, List, ◌∷◌, ◌++◌, length, Bool, true, ◌&&◌, filter}
use Rattle.std.specs.Borrow.{Bor}
use Rattle.std.specs.Ordering.{is_le, is_lt, is_ge, is_gt}
use Rattle.std.specs.Range.Bound.{bound_map}
use Rattle.std.specs.declared.cmp.Ordering.{Ordering}
use Rattle.std.specs.declared.ops.Bound.{Bound}
use Rattle.std.specs.declared.ops.Bound.TheVariants.{Included, Excluded, Unbounded}
use Rattle.rkyv_btree_walk.specs.Search.{OrderedBy, ComparesBy}

-- these entries stand in the list, one after the other
abbrev pub IsRun : {X : Type 0} → List X → List X → Type 0
IsRun {X} range all = (skipped later : List X) × (all ≡ skipped ++ (range ++ later))

-- a list ends with these
abbrev pub IsEnd : {X : Type 0} → List X → List X → Type 0
IsEnd {X} rest all = (skipped : List X) × (all ≡ skipped ++ rest)

-- this is the last of a list's first n elements
abbrev pub IsLastOf : {X : Type 0} → ℕ → List X → X → Type 0
IsLastOf {X} n all x = (before later : List X) × (all ≡ before ++ x ∷ later) × (n ≡ length before + 1)

module _ {A : Type 0} where
  -- whether a key isn't before a low bound
  abbrev pub is_from : Bound (A → Ordering) → A → Bool
  is_from Unbounded key = true
  is_from (Included comparison) key = is_le (comparison key)
  is_from (Excluded comparison) key = is_lt (comparison key)

  -- whether it isn't past a high one
  abbrev pub is_to : Bound (A → Ordering) → A → Bool
  is_to Unbounded key = true
  is_to (Included comparison) key = is_ge (comparison key)
  is_to (Excluded comparison) key = is_gt (comparison key)

  -- the keys within two bounds
  abbrev pub keys_within : Bound (A → Ordering) → Bound (A → Ordering) → List A → List A
  keys_within low high ks = filter (λ k. is_from low k && is_to high k) ks

  module _ {B : Type 0} where
    -- the entries whose keys are within two bounds
    abbrev pub entries_within : Bound (A → Ordering) → Bound (A → Ordering) → List (A × B) → List (A × B)
    entries_within low high m = filter (λ e. is_from low e.0 && is_to high e.0) m

    -- the entries are ordered for the query of a bound, if it has one
    abbrev pub OrderedFor : Bound (A → Ordering) → List (A × B) → Type 0
    OrderedFor Unbounded all = Unit {0}
    OrderedFor (Included comparison) all = OrderedBy (λ e. comparison e.0) all
    OrderedFor (Excluded comparison) all = OrderedBy (λ e. comparison e.0) all

    -- these entries are all that are within both bounds, where the entries are ordered for both
    abbrev pub IsWithin : Bound (A → Ordering) → Bound (A → Ordering) → List (A × B) → List (A × B) → Type 0
    IsWithin low high all range = OrderedFor low all → OrderedFor high all → range ≡ entries_within low high all

-- what holds of two bounds, by a comparison that is some function of a query and of what it is compared with
abbrev pub ByBounds : {Q W A : Type 0} → (Bor Q → W → Ordering → Type 0) → (W → A) → Bound (Bor Q) → Bound (Bor Q)
    → (Bound (A → Ordering) → Bound (A → Ordering) → Type 0) → Type 0
ByBounds {Q} {A} post shows low high Holds =
    (compared : Q → A → Ordering) → ComparesBy post shows compared → Holds (bound_map (λ q. compared q.now) low) (bound_map (λ q. compared q.now) high)
