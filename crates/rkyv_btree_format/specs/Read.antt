-- The tree that is read at a place, of entries by their node and number.
use Rattle.std.specs.Prelude.{ℕ, zero, suc, ◌+◌, List, [], ◌∷◌, map, Option, Some, None, ℤ, pos, negsuc, slice_index, nat_eq, if◌then◌else◌}
use Rattle.rkyv_btree_portable.specs.Bytes.{number_at, target_at, place_at}
use Rattle.rkyv_btree_portable.specs.Kind.{Kind}
use Rattle.rkyv_btree_format.specs.Layout.{NodeLayout, layout_of, key_at, value_at, len_at, pointer_at}
use Rattle.rkyv_btree_shape.specs.Tree.{Tree, leaf, inner, Row, last, step, Child, absent, child, list}

module _ (s : NodeLayout) (b : List ℕ) where
  -- so many entries of the node at p, from number i on
  abbrev pub run : ℕ → ℕ → ℕ → List (ℕ × ℕ)
  run p zero i = []
  run p (suc n) i = (p, i) ∷ run p n (i + 1)

  -- where the trees on the next level are given
  module _ (below : ℕ → Tree (ℕ × ℕ)) where
    abbrev pub child_of : Option ℤ → Child (ℕ × ℕ)
    child_of None = absent
    child_of (Some (negsuc n)) = absent
    child_of (Some (pos q)) = child (below q)

    abbrev pub row_at : ℕ → ℕ → ℕ → Row (ℕ × ℕ)
    row_at p zero i = last (child_of (target_at b (p + pointer_at s i)))
    row_at p (suc n) i = step (child_of (target_at b (p + pointer_at s i))) (p, i) (row_at p n (i + 1))

    abbrev pub node_over : ℕ → Tree (ℕ × ℕ)
    node_over p = if nat_eq (slice_index b p) 0 then leaf (run p (number_at b (p + len_at s) 4) 0) else inner (row_at p s.E 0)

  -- at most so many levels of the tree at p
  abbrev pub tree_at : ℕ → ℕ → Tree (ℕ × ℕ)
  tree_at zero p = leaf []
  tree_at (suc levels) p = node_over (tree_at levels) p

  unfoldable pub tree_of : ℤ → Tree (ℕ × ℕ)
  tree_of (pos q) = tree_at 32 q
  tree_of (negsuc n) = leaf []

  -- the tree of the map at a position
  abbrev pub map_tree : ℕ → Tree (ℕ × ℕ)
  map_tree at = if nat_eq (number_at b (at + 4) 4) 0 then leaf [] else tree_of (place_at b at)

module _ (K V : Kind) (E : ℕ) (b : List ℕ) where
  -- what an entry means
  abbrev pub entry_at : ℕ × ℕ → K.Value × V.Value
  entry_at e = (K.read b (e.0 + key_at (layout_of K V E) e.1), V.read b (e.0 + value_at (layout_of K V E) e.1))

  -- the entries of the map at a position, in order
  abbrev pub read_map : ℕ → List (K.Value × V.Value)
  read_map at = map entry_at (list (map_tree (layout_of K V E) b at))
