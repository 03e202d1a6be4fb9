-- What is left of a path of nodes from the root on, each with the number of its next entry, and of a leaf below it.
use Rattle.std.specs.Prelude.{ℕ, zero, suc, ◌+◌, ◌-◌, List, [], ◌∷◌, ◌++◌, Option, Some, None, if◌then◌else◌}
use Rattle.rkyv_btree_portable.specs.Bytes.{number_at}
use Rattle.rkyv_btree_format.specs.Layout.{NodeLayout, len_at}
use Rattle.rkyv_btree_format.specs.Read.{run, row_at, tree_at}
use Rattle.rkyv_btree_shape.specs.Tree.{Tree, list, row_list}
use Rattle.rkyv_btree_walk.specs.Nodes.{is_leaf}
use Rattle.rkyv_btree_walk.specs.Remaining.{take_before}

module _ (s : NodeLayout) (b : List ℕ) where
  -- what is left of an inner node's row at entry i, with n entries left: the entries, and the children after them
  abbrev pub row_rest : (ℕ → Tree (ℕ × ℕ)) → ℕ → ℕ → ℕ → List (ℕ × ℕ)
  row_rest below p zero i = []
  row_rest below p (suc n) i = (p, i) ∷ row_list (row_at s b below p n (i + 1))

  -- what is left of the node at p from entry i on, with so many levels below it
  unfoldable pub node_rest : ℕ → ℕ → ℕ → List (ℕ × ℕ)
  node_rest levels p i = if is_leaf s b p then run s b p (number_at b (p + len_at s) 4 - i) i else row_rest (tree_at s b levels) p (s.E - i) i

  -- the entries of a child, with so many levels
  abbrev pub child_list : ℕ → Option ℕ → List (ℕ × ℕ)
  child_list levels None = []
  child_list levels (Some q) = list (tree_at s b levels q)

  -- what is left of a path of nodes from the root on, each with the number of its next entry; `levels` are at its start
  abbrev pub path_rest : ℕ → List (ℕ × ℕ) → List (ℕ × ℕ)
  path_rest levels [] = []
  path_rest zero (f ∷ fs) = []
  path_rest (suc levels) (f ∷ fs) = path_rest levels fs ++ node_rest levels f.0 f.1

  -- what is left of a walk: the entries of a leaf from number i to before number n, and then of the path above it
  abbrev pub walk_rest : ℕ → ℕ → ℕ → List (ℕ × ℕ) → List (ℕ × ℕ)
  walk_rest p i n fs = run s b p (n - i) i ++ path_rest 32 fs

  -- what is left of it before a stop: the entries of the leaf, and those of the path above it up to the stop
  abbrev pub range_rest : Option (ℕ × ℕ) → ℕ → ℕ → ℕ → List (ℕ × ℕ) → List (ℕ × ℕ)
  range_rest stop p i n fs = run s b p (n - i) i ++ take_before stop (path_rest 32 fs)
