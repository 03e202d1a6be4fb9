-- The numbers of a cursor that are a place in a map.
use Rattle.std.specs.Prelude.{◌≡◌, ℕ, zero, suc, ◌≤◌, List, Option, Some, false}
use Rattle.rkyv_btree_portable.specs.Kind.{Kind}
use Rattle.rkyv_btree_format.specs.Layout.{NodeLayout, layout_of}
use Rattle.rkyv_btree_walk.specs.Below.{root_place, IsBelow, PathBelow, RunBelow}
use Rattle.rkyv_btree_walk.specs.Nodes.{is_leaf, child_place}
use Rattle.rkyv_btree_ffi.specs.MapTypes.{key_kind, value_kind}
use Rattle.rkyv_btree_ffi.specs.Cursors.{path_of}
use Rattle.rkyv_btree_ffi.specs.declared.cursor.BtreeCursor.{BtreeCursor}
use Rattle.rkyv_btree_ffi.specs.declared.map_type.MapType.{MapType}

module _ (s : NodeLayout) (b : List ℕ) where
  -- so many pointers lead from a node to another
  abbrev pub Leads : ℕ → ℕ → ℕ → Type 0
  Leads zero p q = p ≡ q
  Leads (suc d) p q = (i c : ℕ) × (i ≤ s.E) × (child_place s b p i ≡ Some c) × Leads d c q

  module _ (root : Option ℕ) where
    -- pointers lead from the root to a node
    abbrev pub IsInMap : ℕ → Type 0
    IsInMap q = (d : ℕ) × IsBelow s b root d q

    -- so many of them lead to an inner node, which has an entry of this number, or so many entries
    abbrev pub IsStep : ℕ → ℕ × ℕ → Type 0
    IsStep d f = IsBelow s b root d f.0 × (is_leaf s b f.0 ≡ false) × (f.1 ≤ s.E)

module _ (K V : Kind) (b : List ℕ) (at : ℕ) (c : BtreeCursor) where
  -- the nodes of a cursor are a path of at most 32 inner nodes of the map at a position
  pub record IsPathOf : Type 0 where
    pub deep : c.depth ≤ 32
    pub path : PathBelow (layout_of K V 5) b (root_place b at) 0 (path_of c)

  -- so is its path, and its entries are in a node of the map
  pub record IsPlaceOf : Type 0 where
    pub path : IsPathOf
    pub run : RunBelow (layout_of K V 5) b (root_place b at) c.node c.next c.end

  -- the cursor is a place in the map
  abbrev pub IsGood : Type 0
  IsGood = ∥ IsPlaceOf ∥₁

-- of a map of a type
abbrev pub IsPlace : MapType → List ℕ → ℕ → BtreeCursor → Type 0
IsPlace t = IsGood (key_kind t) (value_kind t)
