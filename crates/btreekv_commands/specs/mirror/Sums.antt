-- How the figures of an archive's tree are found in its bytes.
use Rattle.std.specs.Prelude.{ℕ, zero, suc, ◌+◌, ◌≤◌, List, length, Option, Some, None, if◌then◌else◌}
use Rattle.rkyv_btree_portable.specs.Text.{text_kind, text_len}
use Rattle.rkyv_btree_shape.specs.Tree.{Tree, height}
use Rattle.rkyv_btree_format.specs.Layout.{key_at, value_at}
use Rattle.rkyv_btree_format.specs.Spells.{Spells}
use Rattle.rkyv_btree_walk.specs.Nodes.{child_place, entry_count, is_leaf}
use Rattle.btreekv_commands.specs.Figures.{nothing, of_leaf, of_inner, beside, above}
use Rattle.btreekv_commands.specs.Lines.{Entry}
use Rattle.btreekv_commands.specs.Nodes.{text_layout}
use Rattle.btreekv_commands.specs.declared.tree_figures.TreeFigures.{TreeFigures}

module _ (b : List ℕ) where
  -- the bytes of the texts at so many places
  abbrev pub text_bytes : (ℕ → ℕ) → ℕ → ℕ
  text_bytes at zero = 0
  text_bytes at (suc i) = text_bytes at i + text_len b (at i)

  abbrev pub node_keys : ℕ → ℕ
  node_keys p = text_bytes (λ i. p + key_at text_layout i) (entry_count text_layout b p)

  abbrev pub node_values : ℕ → ℕ
  node_values p = text_bytes (λ i. p + value_at text_layout i) (entry_count text_layout b p)

  abbrev pub child_sum : (ℕ → TreeFigures) → Option ℕ → TreeFigures
  child_sum below None = nothing
  child_sum below (Some q) = below q

  -- of the first children of the node at p
  abbrev pub children_sum : (ℕ → TreeFigures) → ℕ → ℕ → TreeFigures
  children_sum below p zero = nothing
  children_sum below p (suc i) = beside (children_sum below p i) (child_sum below (child_place text_layout b p i))

  -- of the tree at p, which has at most so many levels
  unfoldable pub tree_sum : ℕ → ℕ → TreeFigures
  tree_sum zero p = nothing
  tree_sum (suc levels) p =
      if is_leaf text_layout b p then of_leaf (node_keys p) (node_values p) else
      above (of_inner (node_keys p) (node_values p)) (children_sum (tree_sum levels) p 6)

  -- a tree of at most so many levels is spelled at p
  pub record IsSpelled (levels p : ℕ) : Type 0 where
    pub lo : ℕ
    pub hi : ℕ
    pub tree : Tree Entry
    pub spelled : Spells text_kind text_kind 5 b lo hi p tree
    pub few : height tree ≤ levels
    pub inside : hi ≤ length b
