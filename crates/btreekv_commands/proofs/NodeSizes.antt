-- Nodes of texts: where their parts begin, how many bytes they have, and that their children can be read.
use Rattle.std.proofs.Common.{◌≡◌, ℕ, ◌≤◌, List, Some, refl}
use Rattle.rkyv_btree_format.specs.Layout.{keys_at, values_at, len_at, leaf_size, inner_size, node_size, align, node_align}
use Rattle.rkyv_btree_portable.specs.Rounding.{round_up}
use Rattle.rkyv_btree_portable.specs.Text.{text_kind}
use Rattle.rkyv_btree_walk.specs.Nodes.{child_place}
use Rattle.rkyv_btree_walk.proofs.Nodes.{tree_levels, tree_node, child_stands}
use Rattle.btreekv_commands.specs.Nodes.{text_layout}
use Rattle.btreekv_commands.specs.mirror.Levels.{HasNode, HasTree}

pub record AreSizes : Type 0 where
  pub keys : keys_at text_layout ≡ 4
  pub values : values_at text_layout ≡ 44
  pub len : len_at text_layout ≡ 84
  pub leaf : leaf_size text_layout ≡ 88
  pub inner : inner_size text_layout ≡ 108

pub sizes : AreSizes
unfolding keys_at values_at len_at leaf_size inner_size node_size align node_align round_up
sizes = record { keys = refl; values = refl; len = refl; leaf = refl; inner = refl }

-- the root of a tree can be read
pub has_node : (b : List ℕ) (p : ℕ) → HasTree b p → HasNode b p
has_node b p tree = tree_node text_kind text_kind 5 b tree.0 p tree.1

-- and so can the tree of each child
pub has_child : (b : List ℕ) (p i q : ℕ) → HasTree b p → i ≤ 5 → child_place text_layout b p i ≡ Some q → HasTree b q
has_child b p i q tree few to =
    let levels = tree_levels text_kind text_kind 5 b tree.0 p tree.1 in
    (levels.0, child_stands text_kind text_kind 5 b levels.0 p (rw levels.1 at tree.1) i q few to)
