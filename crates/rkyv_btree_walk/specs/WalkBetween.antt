-- Walks between bounds of a map: which places they note, and what is left of them. Entries are given by their places.
use Rattle.std.specs.Prelude.{◌≡◌, ℕ, ◌-◌, ◌≤◌, ◌<◌, ◌⊎◌, List, [], ◌∷◌, ◌++◌, Option, Some, false}
use Rattle.rkyv_btree_portable.specs.Kind.{Kind}
use Rattle.rkyv_btree_format.specs.Layout.{NodeLayout, layout_of}
use Rattle.rkyv_btree_format.specs.Read.{run}
use Rattle.rkyv_btree_walk.specs.Below.{root_place, WalkBelow}
use Rattle.rkyv_btree_walk.specs.Bounds.{IsEnd}
use Rattle.rkyv_btree_walk.specs.EntryPlaces.{entry_places}
use Rattle.rkyv_btree_walk.specs.Paths.{walk_rest, range_rest}
use Rattle.rkyv_btree_walk.specs.Remaining.{is_stop}
use Rattle.rkyv_btree_walk.specs.declared.range_walk.RangeWalk.{RangeWalk}

module _ (s : NodeLayout) (b : List ℕ) (all : List (ℕ × ℕ)) (stop : Option (ℕ × ℕ)) where
  -- a walk goes on to the end of a list, and its stop isn't in its leaf's part
  pub record GoesOn (p i n : ℕ) (fs : List (ℕ × ℕ)) : Type 0 where
    pub ends : IsEnd (walk_rest s b p i n fs) all
    pub off : (k : ℕ) → i ≤ k → k < n → is_stop stop (p, k) ≡ false

  -- or it ends with its leaf's part, right before the stop
  pub record EndsInLeaf (p i n : ℕ) (fs : List (ℕ × ℕ)) : Type 0 where
    pub none : fs ≡ []
    pub skipped : List (ℕ × ℕ)
    pub later : List (ℕ × ℕ)
    pub is : all ≡ skipped ++ (run s b p (n - i) i ++ later)
    pub stops : i < n → (e : ℕ × ℕ) × (rest : List (ℕ × ℕ)) × (later ≡ e ∷ rest) × (stop ≡ Some e)

  -- so what a walk notes is where it is in the list
  abbrev pub IsPlaced : ℕ → ℕ → ℕ → List (ℕ × ℕ) → Type 0
  IsPlaced p i n fs = GoesOn p i n fs ⊎ EndsInLeaf p i n fs

module _ (s : NodeLayout) (b : List ℕ) where
  -- the places of the entries that are left of a walk between bounds
  abbrev pub range_left : RangeWalk → List (ℕ × ℕ)
  range_left w = range_rest s b w.stop w.part.node w.part.next w.part.end w.path.items

  -- it is one of the map at a position
  abbrev pub IsRangeWalk : ℕ → RangeWalk → Type 0
  IsRangeWalk at w = ∥ WalkBelow s b (root_place b at) w.part.node w.part.next w.part.end w.path.items ∥₁

  -- it has a place in a list
  abbrev pub IsPlacedWalk : List (ℕ × ℕ) → RangeWalk → Type 0
  IsPlacedWalk all w = IsPlaced s b all w.stop w.part.node w.part.next w.part.end w.path.items

-- a walk between bounds, as it is made before its first entry and as each step leaves it: its nodes are reached from the map's root, and
-- it has a place among the map's entries
pub record IsWalkBetween (K V : Kind) (E : ℕ) (b : List ℕ) (at : ℕ) (w : RangeWalk) : Type 0 where
  pub nodes : IsRangeWalk (layout_of K V E) b at w
  pub placed : ∥ IsPlacedWalk (layout_of K V E) b (entry_places K V E b at) w ∥₁
