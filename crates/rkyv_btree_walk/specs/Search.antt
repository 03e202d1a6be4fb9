-- Which entries of a tree a search compares, and what it finds, whatever order they are in. `comparison` is what comparing the
-- query with an entry gives: at Greater the query is past the entry.
use Rattle.std.specs.Prelude.{◌≡◌, ℕ, ◌<◌, List, [], ◌∷◌, ◌++◌, length, map, Option, Some, None, IsSome, IfSome, ◌↔◌, true, false}
use Rattle.std.specs.Borrow.{Bor}
use Rattle.std.specs.List.{All, HoldsAt}
use Rattle.std.specs.Option.{option_map}
use Rattle.std.specs.Ordering.{match_ordering}
use Rattle.std.specs.declared.cmp.Ordering.{Ordering}
use Rattle.std.specs.declared.cmp.Ordering.TheVariants.{Less, Equal, Greater}
use Rattle.rkyv_btree_portable.specs.Kind.{Kind}
use Rattle.rkyv_btree_walk.specs.declared.search.Compared.{Compared}
use Rattle.rkyv_btree_walk.specs.declared.shows.Shows
use Rattle.rkyv_btree_shape.specs.Tree.{Tree, leaf, inner, Row, last, step, Child, absent, child, list}

module _ {X : Type 0} (comparison : X → Ordering) where
  -- the entries of a leaf before which all others give Greater
  abbrev pub compared_in_leaf : List X → List X
  compared_in_leaf [] = []
  compared_in_leaf (x ∷ xs) = x ∷ match_ordering (comparison x) [] [] (compared_in_leaf xs)

  -- the entries that are compared: in each node those before which all others give Greater; and so in one child, which
  -- stands before the first entry that gives Less, or after all where all give Greater
  abbrev mutual
    pub compared_entries : Tree X → List X
    compared_entries (leaf xs) = compared_in_leaf xs
    compared_entries (inner row) = compared_in_row row

    pub compared_in_row : Row X → List X
    compared_in_row (last c) = compared_in_child c
    compared_in_row (step c x row) = x ∷ match_ordering (comparison x) (compared_in_child c) [] (compared_in_row row)

    pub compared_in_child : Child X → List X
    compared_in_child absent = []
    compared_in_child (child t) = compared_entries t

  -- the first entry of a list that gives Equal
  abbrev pub first_equal : List X → Option X
  first_equal [] = None
  first_equal (x ∷ xs) = match_ordering (comparison x) (first_equal xs) (Some x) (first_equal xs)

  -- the compared entry that gives Equal, of which there is one at most
  abbrev pub probe : Tree X → Option X
  probe t = first_equal (compared_entries t)

  -- along the list come entries that give Greater, then such that give Equal, then such that give Less; there may be
  -- none of each
  abbrev pub OrderedBy : List X → Type 0
  OrderedBy xs = (greater equal less : List X) × (xs ≡ greater ++ equal ++ less)
      × All (λ x. comparison x ≡ Greater) greater × All (λ x. comparison x ≡ Equal) equal × All (λ x. comparison x ≡ Less) less

  -- some entry of the list gives Equal
  abbrev pub AnyHit : List X → Type 0
  AnyHit xs = (i : ℕ) × (i < length xs) × HoldsAt (λ x. comparison x ≡ Equal) xs i

  -- an entry of the list gives Equal, and is x
  abbrev pub IsHit : List X → X → Type 0
  IsHit xs x = (comparison x ≡ Equal) × (i : ℕ) × (i < length xs) × HoldsAt (λ y. y ≡ x) xs i

-- what a search needs of a comparison
abbrev pub compared_of : Ordering → Compared
compared_of Less = record { past = false; equal = false }
compared_of Equal = record { past = false; equal = true }
compared_of Greater = record { past = true; equal = false }

-- the value that a view reads, which says where it stands
abbrev pub shown_value : (K : Kind) {R W : Type 0} → Shows.Ghosts W R → W → K.Value
shown_value K ws w = K.read (ws.bytes w) (ws.place w)

-- each result of a comparison is that of `compared`, for the query and what is read of the view
abbrev pub ComparesBy : {Q W A : Type 0} → (Bor Q → W → Ordering → Type 0) → (W → A) → (Q → A → Ordering) → Type 0
ComparesBy {Q} {W} post read compared = (q : Bor Q) (w : W) (r : Ordering) → post q w r → r ≡ compared q.now (read w)

module _ {X Y : Type 0} (comparison : Y → Ordering) (means : X → Y) (t : Tree X) where
  -- what is found in a tree, of which `means` says what an entry is
  pub record IsSearch (found : Option Y) : Type 0 where
    -- it is the compared entry that gives Equal
    pub probed : found ≡ option_map means (probe (λ e. comparison (means e)) t)
    -- it is an entry of the list, and gives Equal
    pub hit : IfSome found (IsHit comparison (map means (list t)))
    -- along an ordered list something is found exactly if some entry gives Equal
    pub complete : OrderedBy comparison (map means (list t)) → (IsSome found ↔ AnyHit comparison (map means (list t)))

  -- how many comparisons that takes
  abbrev pub comparisons : ℕ
  comparisons = length (compared_entries (λ e. comparison (means e)) t)
