-- How the nodes of a walk hang together with a root: all are reached from it by pointers. This names no kinds and no
-- meanings: it stays true while values are overwritten, since the tree that is read stays the same.
use Rattle.std.specs.Prelude.{◌≡◌, ℕ, zero, suc, ◌+◌, ◌≤◌, ◌<◌, List, [], ◌∷◌, Option, Some, None, false, nat_eq, if◌then◌else◌}
use Rattle.rkyv_btree_portable.specs.Bytes.{number_at, place_at}
use Rattle.rkyv_btree_format.specs.Layout.{NodeLayout}
use Rattle.rkyv_btree_walk.specs.Nodes.{natural, is_leaf, entry_count, child_place}

-- the root node of the map at a position, if it has entries
abbrev pub root_place : List ℕ → ℕ → Option ℕ
root_place b at = if nat_eq (number_at b (at + 4) 4) 0 then None else natural (Some (place_at b at))

module _ (s : NodeLayout) (b : List ℕ) (root : Option ℕ) where
  -- the node at q is so many pointers below the root: below no root there are none
  abbrev pub IsBelow : ℕ → ℕ → Type 0
  IsBelow zero q = root ≡ Some q
  IsBelow (suc d) q = (p i : ℕ) × IsBelow d p × (i ≤ s.E) × (child_place s b p i ≡ Some q)

  -- a path of inner nodes: the first is d pointers below the root, and each next one a pointer further
  abbrev pub PathBelow : ℕ → List (ℕ × ℕ) → Type 0
  PathBelow d [] = Unit {0}
  PathBelow d (f ∷ fs) = IsBelow d f.0 × (is_leaf s b f.0 ≡ false) × (f.1 ≤ s.E) × PathBelow (suc d) fs

  -- the entries from number i to before number n, if there are any, are in a node below the root
  abbrev pub RunBelow : ℕ → ℕ → ℕ → Type 0
  RunBelow p i n = i < n → (d : ℕ) × IsBelow d p × (n ≤ entry_count s b p)

  -- what is left of a walk is below the root: the entries of a leaf from number i to before number n, and the path above it
  abbrev pub WalkBelow : ℕ → ℕ → ℕ → List (ℕ × ℕ) → Type 0
  WalkBelow p i n fs = RunBelow p i n × PathBelow 0 fs
