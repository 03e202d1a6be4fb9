-- What remains of walks along the entries of a map.
use Rattle.std.specs.Prelude.{◌≡◌, ℕ, ◌+◌, ◌-◌, List, [], ◌∷◌, length, Option, MatchOption}
use Rattle.rkyv_btree_format.specs.Layout.{NodeLayout}
use Rattle.rkyv_btree_walk.specs.EntryPlaces.{place_of}
use Rattle.rkyv_btree_walk.specs.declared.entry_walk.Walk.{Walk}
use Rattle.rkyv_btree_walk.specs.declared.entry_place.EntryPlace.{EntryPlace}
use Rattle.rkyv_btree_walk.specs.Below.{WalkBelow, root_place}
use Rattle.rkyv_btree_walk.specs.Paths.{walk_rest}

module _ (s : NodeLayout) (b : List ℕ) where
  -- the places of the entries that are left of a walk
  abbrev pub walk_left : Walk → List (ℕ × ℕ)
  walk_left w = walk_rest s b w.node w.next w.end w.path.items

  -- it is a walk of the map at a position, and knows how many these are
  pub record IsWalk (at : ℕ) (w : Walk) : Type 0 where
    pub below : ∥ WalkBelow s b (root_place b at) w.node w.next w.end w.path.items ∥₁
    pub counted : w.behind + (w.end - w.next) ≡ length (walk_left w)

-- a step takes the first of the places that are left, if there is one
abbrev pub Takes : List (ℕ × ℕ) → List (ℕ × ℕ) → Option EntryPlace → Type 0
Takes old new taken = MatchOption taken ((old ≡ []) × (new ≡ [])) (λ p. old ≡ place_of p ∷ new)
