-- What a walk needs of the nodes that it meets. These are facts that functions of this room hand on; no promise to a caller
-- cites them.
use Rattle.std.specs.Prelude.{◌≡◌, ℕ, zero, suc, ◌+◌, ◌≤◌, ◌<◌, IsTrue, List, length, Option, Some, None, false, ℤ, pos}
use Rattle.std.specs.Prelude.{negsuc}
use Rattle.rkyv_btree_portable.specs.Bytes.{target_at}
use Rattle.rkyv_btree_portable.specs.Kind.{Kind}
use Rattle.rkyv_btree_format.specs.Layout.{are_fitting, layout_of, key_at, value_at, leaf_size, inner_size, pointer_at}
use Rattle.rkyv_btree_portable.specs.Views.{stands}
use Rattle.rkyv_btree_walk.specs.Nodes.{is_leaf, entry_count, child_place}

-- a pointer leads nowhere, or to a place before p
abbrev pub LeadsBefore : ℕ → Option ℤ → Type 0
LeadsBefore p None = Unit {0}
LeadsBefore p (Some (negsuc n)) = ⊥
LeadsBefore p (Some (pos q)) = q < p

module _ (K V : Kind) (E : ℕ) (b : List ℕ) where
  -- a key and a value stand at an entry, which is given by its node and its number
  pub record EntryStands (e : ℕ × ℕ) : Type 0 where
    pub key : IsTrue (stands K b (e.0 + key_at (layout_of K V E) e.1))
    pub value : IsTrue (stands V b (e.0 + value_at (layout_of K V E) e.1))

  -- the node at p lies in the buffer, its entries stand, and its pointers lead to places before it
  pub record NodeStands (p : ℕ) : Type 0 where
    pub leaf_inside : p + leaf_size (layout_of K V E) ≤ length b
    pub inner_inside : is_leaf (layout_of K V E) b p ≡ false → p + inner_size (layout_of K V E) ≤ length b
    pub count : entry_count (layout_of K V E) b p ≤ E
    pub entries : (i : ℕ) → i < entry_count (layout_of K V E) b p → EntryStands (p, i)
    pub leads : is_leaf (layout_of K V E) b p ≡ false → (i : ℕ) → i ≤ E → LeadsBefore p (target_at b (p + pointer_at (layout_of K V E) i))

  -- the entries from number i to before number n stand in a node at p, which lies in the buffer
  abbrev pub RunStands : ℕ → ℕ → ℕ → Type 0
  RunStands p i n = (j : ℕ) → i ≤ j → j < n → EntryStands (p, j) × (p + leaf_size (layout_of K V E) ≤ length b) × (j < E)

  -- the first n keys of the node at p can be read where the layout says that they stand
  pub record CanBeSearched (p n : ℕ) : Type 0 where
    pub fitting : IsTrue (are_fitting K V E)
    pub short : length b ≤ 4294967295
    pub run : RunStands p 0 n

  -- the keys from number i to before number n of the node at p can be read there
  pub record RunCanBeRead (p i n : ℕ) : Type 0 where
    pub fitting : IsTrue (are_fitting K V E)
    pub short : length b ≤ 4294967295
    pub run : RunStands p i n

  -- a tree of at most so many levels stands at p
  unfoldable pub TreeStands : ℕ → ℕ → Type 0
  TreeStands zero p = ⊥
  TreeStands (suc levels) p = NodeStands p × ((i q : ℕ) → i ≤ E → child_place (layout_of K V E) b p i ≡ Some q → TreeStands levels q)

  -- the node at p can be read where the layout says that its parts stand
  pub record NodeCanBeRead (p : ℕ) : Type 0 where
    pub fitting : IsTrue (are_fitting K V E)
    pub short : length b ≤ 4294967295
    pub node : NodeStands p

  -- a tree stands at p, whose nodes can be read where the layout says that they stand
  pub record TreeCanBeRead (p : ℕ) : Type 0 where
    pub fitting : IsTrue (are_fitting K V E)
    pub short : length b ≤ 4294967295
    pub tree : TreeStands 32 p
