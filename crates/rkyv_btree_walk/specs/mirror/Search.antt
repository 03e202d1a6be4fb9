-- Where the search of a node stops. This mirrors the code, which compares from the left.
use Rattle.std.specs.Prelude.{◌≡◌, ℕ, ◌+◌, ◌<◌, ◌≤◌, min, List, length, Option, Some, slice_get, Bool, true, false}
use Rattle.std.specs.Borrow.{Bor}
use Rattle.std.specs.declared.cmp.Ordering.{Ordering}
use Rattle.std.specs.declared.cmp.Ordering.TheVariants.{Less, Equal, Greater}
use Rattle.rkyv_btree_portable.specs.Kind.{Kind}
use Rattle.rkyv_btree_format.specs.Layout.{NodeLayout, layout_of, key_at}
use Rattle.rkyv_btree_format.specs.Read.{tree_at, map_tree}
use Rattle.rkyv_btree_walk.specs.Search.{compared_entries, probe, compared_of}
use Rattle.rkyv_btree_walk.specs.declared.search.Compared.{Compared}
use Rattle.rkyv_btree_walk.specs.declared.search.Stop.{Stop}
use Rattle.rkyv_btree_walk.specs.declared.search.Stop.TheVariants.{At, Before}

-- each result of a comparison is that of `compared`, for the query and what is read of the view
abbrev pub IsComparedBy : {Q W A : Type 0} → (Bor Q → W → Compared → Type 0) → (W → A) → (Q → A → Ordering) → Type 0
IsComparedBy {Q} {W} post read compared = (q : Bor Q) (w : W) (r : Compared) → post q w r → r ≡ compared_of (compared q.now (read w))

-- a search along the comparisons of a node's entries, of which there are `count`, stops here
abbrev pub StopsAt : (ℕ → Ordering) → ℕ → Stop → Type 0
StopsAt comparison count (At i) = (i < count) × ((k : ℕ) → k < i → comparison k ≡ Greater) × (comparison i ≡ Equal)
StopsAt comparison count (Before i) = (i ≤ count) × ((k : ℕ) → k < i → comparison k ≡ Greater) × (i < count → comparison i ≡ Less)

-- a stop among `count` entries
abbrev pub StopsWithin : ℕ → Stop → Type 0
StopsWithin count (At i) = i < count
StopsWithin count (Before i) = i ≤ count

-- where it stops whose keys are all compared: at number `next`, or before it
abbrev pub stop_of : Bool → ℕ → Stop
stop_of true next = At next
stop_of false next = Before next

-- the first `count` entries stop it so, or all give Greater, where it is past them
abbrev pub StopsSoFar : (ℕ → Ordering) → ℕ → Bool → Bool → ℕ → Type 0
StopsSoFar comparison count past equal next = StopsAt comparison count (stop_of equal next) × (past ≡ true → equal ≡ false)

-- how many of them were asked by then
abbrev pub comparisons_by : ℕ → Stop → ℕ
comparisons_by count (At i) = i + 1
comparisons_by count (Before i) = min (i + 1) count

-- an entry stands in a list
abbrev pub IsListed : {X : Type 0} → X → List X → Type 0
IsListed x xs = (i : ℕ) × (slice_get xs i ≡ Some x)

-- how an entry compares, where its key compares so
abbrev pub comparison_at : (K V : Kind) → ℕ → List ℕ → (K.Value → Ordering) → ℕ × ℕ → Ordering
comparison_at K V E b comparison e = comparison (K.read b (e.0 + key_at (layout_of K V E) e.1))

module _ (s : NodeLayout) (b : List ℕ) (comparison : ℕ × ℕ → Ordering) where
  -- what a search of the tree at p finds, of so many levels, and how many entries it asks
  unfoldable pub searched : ℕ → ℕ → Option (ℕ × ℕ) × ℕ
  searched levels p = (probe comparison (tree_at s b levels p), length (compared_entries comparison (tree_at s b levels p)))

  -- the same of the map at a position
  abbrev pub searched_map : ℕ → Option (ℕ × ℕ) × ℕ
  searched_map at = (probe comparison (map_tree s b at), length (compared_entries comparison (map_tree s b at)))
