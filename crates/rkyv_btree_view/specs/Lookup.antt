-- What lookups in a view of a map return. `comparison` is what comparing the query with a key gives, at each value of a key.
use Rattle.std.specs.Prelude.{◌≡◌, ℕ, ◌≤◌, List, map, Option, Some, IfSome, ◌↔◌}
use Rattle.std.specs.Borrow.{Bor}
use Rattle.std.specs.List.Sorted.{IsStrictlySortedBy}
use Rattle.std.specs.Option.{option_map}
use Rattle.std.specs.declared.cmp.Ordering.{Ordering}
use Rattle.rkyv_btree_portable.specs.Kind.{Kind}
use Rattle.rkyv_btree_format.specs.Layout.{layout_of}
use Rattle.rkyv_btree_format.specs.Read.{entry_at, map_tree, read_map}
use Rattle.rkyv_btree_shape.specs.Mapped.{mapped}
use Rattle.rkyv_btree_format.specs.Spells.{Accepted, accepted_tree}
use Rattle.rkyv_btree_shape.specs.Tree.{height}
use Rattle.rkyv_btree_portable.specs.declared.check.Portable
use Rattle.rkyv_btree_walk.specs.Search.{IsHit, ComparesBy, IsSearch, comparisons, OrderedBy, AnyHit, probe}
use Rattle.rkyv_btree_view.specs.Query.{IsCut}
use Rattle.rkyv_btree_view.specs.View.{entries_of}
use Rattle.rkyv_btree_view.specs.declared.view.View.{View}

-- the entry that a search of the map at a position asks and finds equal
abbrev pub found_at : (K V : Kind) → ℕ → List ℕ → ℕ → (K.Value → Ordering) → Option (K.Value × V.Value)
found_at K V E b at comparison =
    let means = entry_at K V E b in
    option_map means (probe (λ e. comparison (means e).0) (map_tree (layout_of K V E) b at))

module _ (K V : Kind) (E : ℕ) {M : Type 0} {m : Portable.Ghosts M} (view : View M m) (comparison : K.Value → Ordering) where
  -- the entry that a search of a view's map asks and finds equal
  abbrev pub found_in : Option (K.Value × V.Value)
  found_in = found_at K V E view.buf.now view.pos comparison

  -- how many keys it compares the query with
  abbrev pub comparisons_in : ℕ
  comparisons_in = comparisons (λ e. comparison e.0) (entry_at K V E view.buf.now) (map_tree (layout_of K V E) view.buf.now view.pos)

  -- under an ordered comparison it says that there is an entry exactly where some key is equal
  abbrev pub IsComplete : Type 0 → Type 0
  IsComplete Found = OrderedBy (λ e. comparison e.0) (entries_of K V E view) → (Found ↔ AnyHit (λ e. comparison e.0) (entries_of K V E view))

-- an entry of the list has this value, and a key that gives Equal
abbrev pub IsValueOfEqualKey : {A B : Type 0} → (A → Ordering) → List (A × B) → B → Type 0
IsValueOfEqualKey {A} comparison m value = (key : A) × IsHit (λ e. comparison e.0) m (key, value)

-- what holds of the comparisons of a query, by a comparison that is some function of the query and of what it is compared with
abbrev pub ByComparison : {Q W A : Type 0} → (Bor Q → W → Ordering → Type 0) → (W → A) → Q → ((A → Ordering) → Type 0) → Type 0
ByComparison {Q} {A} post shows query Holds = (compared : Q → A → Ordering) → ComparesBy post shows compared → Holds (compared query)

-- the same where what a native value is compared with stands at a position of a buffer
abbrev pub ByNative : {N : Type 0} (K : Kind) → (N → List ℕ → ℕ → Ordering) → N → ((K.Value → Ordering) → Type 0) → Type 0
ByNative {N} K compared_at native Holds =
    (compared : N → K.Value → Ordering) → ((n : N) (b : List ℕ) (at : ℕ) → compared_at n b at ≡ compared n (K.read b at)) → Holds (compared native)

-- the height of a map's tree, of these keys, these values and E
abbrev pub height_of : (K V : Kind) → ℕ → {M : Type 0} {m : Portable.Ghosts M} → View M m → ℕ
height_of K V E view = height (map_tree (layout_of K V E) view.buf.now view.pos)

-- what a search of a map asks and finds equal is what a lookup finds, by each comparison
abbrev pub FoundIsEqual : Kind → Kind → ℕ → Type 0
FoundIsEqual K V E =
    (b : List ℕ) (at : ℕ) (comparison : K.Value → Ordering)
    → IsSearch (λ e. comparison e.0) (entry_at K V E b) (map_tree (layout_of K V E) b at) (found_at K V E b at comparison)

-- what is found is the only entry that gives Equal, and where nothing is found none does
pub record Only {Y : Type 0} (comparison : Y → Ordering) (m : List Y) (found : Option Y) : Type 0 where
  pub hit : IfSome found (IsHit comparison m)
  pub alone : (e : Y) → IsHit comparison m e → found ≡ Some e

-- in a map whose keys strictly increase a lookup finds that entry, by each comparison that goes with the order of keys
abbrev pub IncreasingIsFound : Kind → Kind → ℕ → Type 0
IncreasingIsFound K V E =
    (b : List ℕ) (at : ℕ) (comparison : K.Value → Ordering) (found : Option (K.Value × V.Value)) → IsCut K.order comparison
    → IsStrictlySortedBy K.order (map (λ e. e.0) (read_map K V E b at))
    → IsSearch (λ e. comparison e.0) (entry_at K V E b) (map_tree (layout_of K V E) b at) found → Only (λ e. comparison e.0) (read_map K V E b at) found

-- the tree that a search of an accepted map goes through, each entry replaced by what it means, is the one that the bytes spell
abbrev pub SearchedIsSpelled : Kind → Kind → ℕ → Type 0
SearchedIsSpelled K V E =
    (b : List ℕ) (lo hi at left : ℕ) (m : List (K.Value × V.Value)) (a : Accepted K V E b lo hi at left m)
    → mapped (entry_at K V E b) (map_tree (layout_of K V E) b at) ≡ accepted_tree K V E b lo hi at left m a

-- so it has the same height, and that is 32 at most
abbrev pub SearchedIsLow : Kind → Kind → ℕ → Type 0
SearchedIsLow K V E =
    (b : List ℕ) (lo hi at left : ℕ) (m : List (K.Value × V.Value)) (a : Accepted K V E b lo hi at left m)
    → (height (map_tree (layout_of K V E) b at) ≡ height (accepted_tree K V E b lo hi at left m a)) × (height (map_tree (layout_of K V E) b at) ≤ 32)
