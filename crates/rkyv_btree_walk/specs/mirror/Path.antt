-- Where a walk along the entries of a tree is. These mirror the code, which keeps a path of nodes from the root on.
use Rattle.std.specs.Prelude.{◌≡◌, ℕ, zero, suc, ◌+◌, ◌≤◌, List, [], ◌∷◌, ◌++◌, map, Option, Some, None, false}
use Rattle.rkyv_btree_portable.specs.Kind.{Kind}
use Rattle.rkyv_btree_format.specs.Layout.{NodeLayout, layout_of}
use Rattle.rkyv_btree_format.specs.Read.{entry_at}
use Rattle.rkyv_btree_walk.specs.declared.path.Leaf.{Leaf}
use Rattle.rkyv_btree_walk.specs.declared.path.Step.{Step}
use Rattle.rkyv_btree_walk.specs.Nodes.{is_leaf, child_place}
use Rattle.rkyv_btree_walk.specs.Paths.{node_rest, child_list, path_rest, walk_rest}
use Rattle.rkyv_btree_walk.specs.mirror.Node.{TreeStands, RunStands}

module _ (s : NodeLayout) (b : List ℕ) where
  -- what is left of the tree at p, of so many levels, from child i of its node on
  unfoldable pub tree_rest : ℕ → ℕ → ℕ → List (ℕ × ℕ)
  tree_rest zero p i = []
  tree_rest (suc levels) p i = child_list s b levels (child_place s b p i) ++ node_rest s b levels p i

  -- that of a walk that has come to the start of a leaf
  abbrev pub leaf_rest : Leaf → List (ℕ × ℕ) → List (ℕ × ℕ)
  leaf_rest leaf fs = walk_rest s b leaf.node 0 leaf.count fs

  -- a step takes the first entry that is left of a path, and the leaf and the new path have the others; or none is left
  abbrev pub Steps : Option Step → List (ℕ × ℕ) → List (ℕ × ℕ) → Type 0
  Steps None old new = (path_rest s b 32 old ≡ []) × (path_rest s b 32 new ≡ [])
  Steps (Some e) old new = path_rest s b 32 old ≡ (e.node, e.index) ∷ leaf_rest e.leaf new

module _ (K V : Kind) (E : ℕ) (b : List ℕ) where
  -- the entries of a leaf stand
  abbrev pub LeafStands : Leaf → Type 0
  LeafStands leaf = RunStands K V E b leaf.node 0 leaf.count

  -- the entry that a step takes stands
  abbrev pub StepStands : Step → Type 0
  StepStands e = RunStands K V E b e.node e.index (e.index + 1)

-- what the entries that are left of a walk mean
abbrev pub read_rest : (K V : Kind) → ℕ → List ℕ → ℕ → ℕ → ℕ → List (ℕ × ℕ) → List (K.Value × V.Value)
read_rest K V E b p i n fs = map (entry_at K V E b) (walk_rest (layout_of K V E) b p i n fs)

-- what those mean that are left of a walk that has come to the start of a leaf
abbrev pub read_leaf_rest : (K V : Kind) → ℕ → List ℕ → Leaf → List (ℕ × ℕ) → List (K.Value × V.Value)
read_leaf_rest K V E b leaf fs = map (entry_at K V E b) (leaf_rest (layout_of K V E) b leaf fs)

-- a path of inner nodes, one a level
abbrev pub IsPath : Kind → Kind → ℕ → List ℕ → ℕ → List (ℕ × ℕ) → Type 0
IsPath K V E b levels [] = Unit {0}
IsPath K V E b zero (f ∷ fs) = ⊥
IsPath K V E b (suc levels) (f ∷ fs) = TreeStands K V E b (suc levels) f.0 × (is_leaf (layout_of K V E) b f.0 ≡ false) × (f.1 ≤ E) × IsPath K V E b levels fs
