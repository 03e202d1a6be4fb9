-- Which entries remain of a walk between bounds: those of the map's list from the first that the walk notes on, up to its stop. Entries are
-- given by their places.
use Rattle.std.specs.Prelude.{ℕ, List, [], ◌∷◌, Option, Some, None, Bool, false, ◌&&◌, ◌||◌, nat_eq, nat_lt, if◌then◌else◌}
use Rattle.rkyv_btree_portable.specs.Kind.{Kind}
use Rattle.rkyv_btree_walk.specs.EntryPlaces.{entry_places}
use Rattle.rkyv_btree_walk.specs.declared.range_walk.RangeWalk.{RangeWalk}

-- whether two places are one
abbrev pub is_place : ℕ × ℕ → ℕ × ℕ → Bool
is_place p e = nat_eq p.0 e.0 && nat_eq p.1 e.1

-- whether a place is one of these
abbrev pub is_among : List (ℕ × ℕ) → ℕ × ℕ → Bool
is_among [] e = false
is_among (p ∷ ps) e = is_place p e || is_among ps e

-- the places of a list from the first on that is one of these
abbrev pub from_first : List (ℕ × ℕ) → List (ℕ × ℕ) → List (ℕ × ℕ)
from_first noted [] = []
from_first noted (e ∷ es) = if is_among noted e then e ∷ es else from_first noted es

-- whether a place is the stop
abbrev pub is_stop : Option (ℕ × ℕ) → ℕ × ℕ → Bool
is_stop None e = false
is_stop (Some stop) e = is_place stop e

-- the places before the stop, if it is among them
abbrev pub take_before : Option (ℕ × ℕ) → List (ℕ × ℕ) → List (ℕ × ℕ)
take_before stop [] = []
take_before stop (e ∷ es) = if is_stop stop e then [] else e ∷ take_before stop es

-- the places that a walk notes: the next entry of its leaf, if one is left there, and the next one of each node above
abbrev pub noted_places : RangeWalk → List (ℕ × ℕ)
noted_places w = if nat_lt w.part.next w.part.end then (w.part.node, w.part.next) ∷ w.path.items else w.path.items

-- the entries that remain of a walk along the map at a position
abbrev pub places_between : Kind → Kind → ℕ → List ℕ → ℕ → RangeWalk → List (ℕ × ℕ)
places_between K V E b at w = take_before w.stop (from_first (noted_places w) (entry_places K V E b at))
