-- The functions of `Check` and `Counted`, which mirror the code, for keys and values of these kinds.
use Rattle.std.specs.Prelude.{ℕ, ◌+◌, List, Result, ℤ}
use Rattle.rkyv_btree_portable.specs.Kind.{Kind}
use Rattle.rkyv_btree_portable.specs.declared.refusal.Refusal.{Refusal}
use Rattle.rkyv_btree_format.specs.Layout.{layout_of}
use Rattle.rkyv_btree_verify.specs.declared.verify.Checked.{Checked}
use Rattle.rkyv_btree_verify.specs.mirror.Check.{check_entry, check_entries, check_leaf, check_pointer, check_pointers}
use Rattle.rkyv_btree_verify.specs.mirror.Check.{check_inner, check_placed, check_node, check_tree, check_root, check_map}
use Rattle.rkyv_btree_verify.specs.mirror.Counted.{pointer_steps, pointers_steps, placed_steps, node_steps, tree_steps, root_steps, map_steps}

module _ (K V : Kind) (E : ℕ) (b : List ℕ) where
  abbrev pub entry_answer : ℕ → ℕ → ℕ → Result ℕ Refusal
  entry_answer = check_entry (layout_of K V E) K.leaves V.leaves b

  abbrev pub entries_answer : ℕ → ℕ → ℕ → Result ℕ Refusal
  entries_answer p n lo = check_entries (layout_of K V E) K.leaves V.leaves b p n 0 lo

  abbrev pub leaf_answer : ℕ → ℕ → Result Checked Refusal
  leaf_answer = check_leaf (layout_of K V E) K.leaves V.leaves b

  -- with so many levels left below the node, as for those that follow
  abbrev pub node_answer : ℕ → ℤ → ℕ → ℕ → Result Checked Refusal
  node_answer = check_node (layout_of K V E) K.leaves V.leaves b

  abbrev pub pointer_answer : ℕ → ℕ → ℕ → Checked → Result Checked Refusal
  pointer_answer levels = check_pointer (layout_of K V E) K.leaves V.leaves b (node_answer levels)

  abbrev pub pointers_answer : ℕ → ℕ → ℕ → Result Checked Refusal
  pointers_answer levels p lo = check_pointers (layout_of K V E) K.leaves V.leaves b (node_answer levels) p (E + 1) 0 (record { lo = lo; entries = 0 })

  abbrev pub inner_answer : ℕ → ℕ → ℕ → Result Checked Refusal
  inner_answer levels = check_inner (layout_of K V E) K.leaves V.leaves b (node_answer levels)

  abbrev pub placed_answer : ℕ → ℕ → ℕ → ℕ → Result Checked Refusal
  placed_answer levels = check_placed (layout_of K V E) K.leaves V.leaves b (node_answer levels)

  abbrev pub tree_answer : ℤ → ℕ → ℕ → Result Checked Refusal
  tree_answer = check_tree (layout_of K V E) K.leaves V.leaves b

  abbrev pub root_answer : ℕ → ℕ → ℕ → Result ℕ Refusal
  root_answer = check_root (layout_of K V E) K.leaves V.leaves b

  abbrev pub map_answer : ℕ → ℕ → ℕ → Result ℕ Refusal
  map_answer = check_map (layout_of K V E) K.leaves V.leaves b

  -- how many checks of nodes each begins
  abbrev pub node_count : ℕ → ℤ → ℕ → ℕ → ℕ
  node_count = node_steps (layout_of K V E) K.leaves V.leaves b

  abbrev pub pointer_count : ℕ → ℕ → ℕ → Checked → ℕ
  pointer_count levels = pointer_steps (layout_of K V E) K.leaves V.leaves b (node_answer levels) (node_count levels)

  abbrev pub pointers_count : ℕ → ℕ → ℕ → ℕ
  pointers_count levels p lo =
      pointers_steps (layout_of K V E) K.leaves V.leaves b (node_answer levels) (node_count levels) p (E + 1) 0 (record { lo = lo; entries = 0 })

  abbrev pub placed_count : ℕ → ℕ → ℕ → ℕ → ℕ
  placed_count levels = placed_steps (layout_of K V E) K.leaves V.leaves b (node_answer levels) (node_count levels)

  abbrev pub tree_count : ℤ → ℕ → ℕ → ℕ
  tree_count = tree_steps (layout_of K V E) K.leaves V.leaves b

  abbrev pub root_count : ℕ → ℕ → ℕ → ℕ
  root_count = root_steps (layout_of K V E) K.leaves V.leaves b

  abbrev pub map_count : ℕ → ℕ → ℕ → ℕ
  map_count = map_steps (layout_of K V E) K.leaves V.leaves b
