-- How the pieces of an archive's first levels are found: the parts that these levels are, and how parts become pieces.
use Rattle.std.specs.Prelude.{ℕ, zero, suc, ◌+◌, List, [], ◌∷◌, ◌++◌, max, nat_lt, Option, Some, None, if◌then◌else◌}
use Rattle.rkyv_btree_portable.specs.Text.{text_kind}
use Rattle.rkyv_btree_portable.specs.declared.check.Window.{Window}
use Rattle.rkyv_btree_format.specs.Layout.{key_at}
use Rattle.rkyv_btree_format.specs.OwnBytes.{own_at}
use Rattle.rkyv_btree_walk.specs.Below.{root_place}
use Rattle.rkyv_btree_walk.specs.Nodes.{child_place, entry_count}
use Rattle.rkyv_btree_walk.specs.mirror.Node.{NodeStands, TreeStands}
use Rattle.btreekv_commands.specs.Nodes.{node_part, part, text_layout, text_part}
use Rattle.btreekv_commands.specs.Opening.{texts}

-- the node at p can be read
abbrev pub HasNode : List ℕ → ℕ → Type 0
HasNode b p = NodeStands text_kind text_kind 5 b p

-- and so can all nodes below it
abbrev pub HasTree : List ℕ → ℕ → Type 0
HasTree b p = (levels : ℕ) × TreeStands text_kind text_kind 5 b levels p

module _ (b : List ℕ) where
  -- the texts of the first keys of the node at p
  abbrev pub key_parts : ℕ → ℕ → List Window
  key_parts p zero = []
  key_parts p (suc i) = key_parts p i ++ text_part b (p + key_at text_layout i) ∷ []

  abbrev pub of_child : (ℕ → List Window) → Option ℕ → List Window
  of_child parts None = []
  of_child parts (Some q) = parts q

  -- what the first children of the node at p give
  abbrev pub of_children : (ℕ → List Window) → ℕ → ℕ → List Window
  of_children parts p zero = []
  of_children parts p (suc i) = of_children parts p i ++ of_child parts (child_place text_layout b p i)

  -- the nodes of the first levels of the tree at p, each with the texts of its keys after it
  unfoldable pub tree_parts : ℕ → ℕ → List Window
  tree_parts zero p = []
  tree_parts (suc levels) p = node_part b p ∷ (key_parts p (entry_count text_layout b p) ++ of_children (tree_parts levels) p 6)

  -- those of an archive, after its own last eight bytes
  abbrev pub top_parts : ℕ → List Window
  top_parts levels = part (own_at texts b) (own_at texts b + 8) ∷ of_child (tree_parts levels) (root_place b (own_at texts b))

-- parts in order as pieces: a part that begins less than 64 bytes after the piece before it is in that piece
abbrev pub joined_to : Window → List Window → List Window
joined_to piece [] = piece ∷ []
joined_to piece (p ∷ ps) =
    if nat_lt p.lo (piece.hi + 64) then joined_to (part piece.lo (max piece.hi p.hi)) ps else piece ∷ joined_to p ps

abbrev pub joined : List Window → List Window
joined [] = []
joined (p ∷ ps) = joined_to p ps
