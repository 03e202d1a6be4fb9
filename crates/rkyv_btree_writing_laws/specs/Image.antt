-- The writes that put an archive down: nodes, trees, and the map itself.
use Rattle.std.specs.Prelude.{ℕ, ◌+◌, ◌||◌, ◌&&◌, Bool, true, nat_eq, if◌then◌else◌, List, [], ◌∷◌, ◌++◌, length, Option, Some, None}
use Rattle.std.specs.List.{flat_map}
use Rattle.std.specs.Int.{w32, to_le_bytes}
use Rattle.rkyv_btree_portable.specs.InPlace.{OwnBytes}
use Rattle.rkyv_btree_format.specs.Layout.{NodeLayout, keys_at, values_at, len_at, align, leaf_size, inner_size}
use Rattle.rkyv_btree_writer.specs.Padding.{padding}
use Rattle.rkyv_btree_portable.specs.Bytes.{filled}
use Rattle.rkyv_btree_writer.specs.Pointers.{pointer, no_pointer, offset_fits}
use Rattle.rkyv_btree_portable.specs.Rounding.{round_up}
use Rattle.rkyv_btree_shape.specs.Tree.{Tree, leaf, inner, Row, last, step, Child, absent, child, row_entries}
use Rattle.rkyv_btree_writer.specs.Writing.{Write}

-- the kind, the keys and the values of a node, whose entries are given by their own bytes
abbrev pub entry_bytes : NodeLayout → ℕ → List OwnBytes → List ℕ
entry_bytes s kind xs = filled (filled (kind ∷ []) (keys_at s) ++ flat_map (λ x. x.0) xs) (values_at s) ++ flat_map (λ x. x.1) xs

-- a leaf: after its entries the number of them, and zeros wherever nothing stands
abbrev pub leaf_bytes : NodeLayout → List OwnBytes → List ℕ
leaf_bytes s xs = filled (filled (entry_bytes s 0 xs) (len_at s) ++ to_le_bytes w32 (length xs)) (leaf_size s)

-- the writes of a leaf at a position: the padding before it, and then the node in one write
abbrev pub leaf_image : NodeLayout → ℕ → List OwnBytes → List Write
leaf_image s at xs = padding (align s) at ++ record { bytes = leaf_bytes s xs; reaches = true } ∷ []

-- pointers from a position on, to nodes at these positions
abbrev pub pointers : ℕ → List (Option ℕ) → List ℕ
pointers at [] = []
pointers at (None ∷ roots) = no_pointer ++ pointers (at + 4) roots
pointers at (Some root ∷ roots) = pointer at root ++ pointers (at + 4) roots

-- each of them reaches its node
abbrev pub pointers_reach : ℕ → List (Option ℕ) → Bool
pointers_reach at [] = true
pointers_reach at (None ∷ roots) = pointers_reach (at + 4) roots
pointers_reach at (Some root ∷ roots) = offset_fits at root && pointers_reach (at + 4) roots

-- an inner node at a position: after its entries the pointers to its children, and zeros wherever nothing stands
abbrev pub inner_bytes : NodeLayout → ℕ → List OwnBytes → List (Option ℕ) → List ℕ
inner_bytes s at xs roots = filled (filled (entry_bytes s 1 xs) (len_at s) ++ pointers (at + len_at s) roots) (inner_size s)

abbrev pub inner_write : NodeLayout → ℕ → List OwnBytes → List (Option ℕ) → Write
inner_write s at xs roots = record { bytes = inner_bytes s at xs roots; reaches = pointers_reach (at + len_at s) roots }

-- the writes of an inner node at a position, after its children
abbrev pub inner_image : NodeLayout → ℕ → List OwnBytes → List (Option ℕ) → List Write
inner_image s at xs roots = padding (align s) at ++ inner_write s (round_up at (align s)) xs roots ∷ []

-- where the writes of a tree, of a row of children or of a child end, if they begin at a position
abbrev mutual
  pub tree_end : NodeLayout → ℕ → Tree OwnBytes → ℕ
  tree_end s at (leaf xs) = round_up at (align s) + leaf_size s
  tree_end s at (inner row) = round_up (row_end s at row) (align s) + inner_size s

  pub row_end : NodeLayout → ℕ → Row OwnBytes → ℕ
  row_end s at (last c) = child_end s at c
  row_end s at (step c x row) = row_end s (child_end s at c) row

  pub child_end : NodeLayout → ℕ → Child OwnBytes → ℕ
  child_end s at absent = at
  child_end s at (child t) = tree_end s at t

-- the position of a tree's root node, of a child's, and of each child's in a row
abbrev pub tree_root : NodeLayout → ℕ → Tree OwnBytes → ℕ
tree_root s at (leaf xs) = round_up at (align s)
tree_root s at (inner row) = round_up (row_end s at row) (align s)

abbrev pub child_root : NodeLayout → ℕ → Child OwnBytes → Option ℕ
child_root s at absent = None
child_root s at (child t) = Some (tree_root s at t)

abbrev pub row_roots : NodeLayout → ℕ → Row OwnBytes → List (Option ℕ)
row_roots s at (last c) = child_root s at c ∷ []
row_roots s at (step c x row) = child_root s at c ∷ row_roots s (child_end s at c) row

-- the writes of a tree: the children from the left, and then their parent
abbrev mutual
  pub tree_image : NodeLayout → ℕ → Tree OwnBytes → List Write
  tree_image s at (leaf xs) = leaf_image s at xs
  tree_image s at (inner row) = row_image s at row ++ inner_image s (row_end s at row) (row_entries row) (row_roots s at row)

  pub row_image : NodeLayout → ℕ → Row OwnBytes → List Write
  row_image s at (last c) = child_image s at c
  row_image s at (step c x row) = child_image s at c ++ row_image s (child_end s at c) row

  pub child_image : NodeLayout → ℕ → Child OwnBytes → List Write
  child_image s at absent = []
  child_image s at (child t) = tree_image s at t

-- the map at a position: a pointer to its root node, none for no entries, and the number of its entries
abbrev pub root_bytes : ℕ → ℕ → ℕ → List ℕ
root_bytes at root len = (if nat_eq len 0 then no_pointer else pointer at root) ++ to_le_bytes w32 len

-- the pointer, if there has to be one, reaches the root node
abbrev pub root_reaches : ℕ → ℕ → ℕ → Bool
root_reaches at root len = nat_eq len 0 || offset_fits at root

-- the writes of a map at the next multiple of 4
abbrev pub root_image : ℕ → ℕ → ℕ → List Write
root_image at root len = padding 4 at ++ record { bytes = root_bytes (round_up at 4) root len; reaches = root_reaches (round_up at 4) root len } ∷ []
