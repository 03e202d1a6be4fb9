-- Which tree the bytes of a buffer spell, and which list a map's eight bytes mean with it. Each key, value and child lies
-- in a window of the bytes before its node: it takes a beginning of the window, and leaves the rest to what comes after
-- it. So no two parts of a tree share a byte, and all that a node leads to stands before it.
use Rattle.std.specs.Prelude.{◌≡◌, ◌≢◌, ℕ, ◌+◌, ◌%◌, ◌≤◌, ◌⊎◌, List, [], ◌∷◌, length, Some, None, pos, slice_index}
use Rattle.std.proofs.Common.{inl, inr}
use Rattle.rkyv_btree_portable.specs.Bytes.{number_at, target_at, place_at}
use Rattle.rkyv_btree_portable.specs.Kind.{Kind}
use Rattle.rkyv_btree_format.specs.Layout.{NodeLayout, layout_of, key_at, value_at, len_at, leaf_size, inner_size, pointer_at, align}
use Rattle.rkyv_btree_shape.specs.Tree.{Tree, leaf, inner, Row, last, step, Child, absent, child, list, height, row_entries, nodes, HasShape}

-- a node of a kind stands at p in the window from lo to hi
pub record IsNodeAt (s : NodeLayout) (b : List ℕ) (lo hi p kind size : ℕ) : Type 0 where
  pub start : lo ≤ p
  pub room : p + size ≤ hi
  pub aligned : p % align s ≡ 0
  pub kind_byte : slice_index b p ≡ kind

-- the size of a tree's root
abbrev pub root_size : {X : Type 0} → NodeLayout → Tree X → ℕ
root_size s (leaf m) = leaf_size s
root_size s (inner row) = inner_size s

module _ (K V : Kind) (E : ℕ) (b : List ℕ) where
  -- the keys and values of the node at p from number i on mean the list, each in the window that the one before
  -- it left; the first starts its window at lo, the last leaves lo2
  abbrev pub Entries : ℕ → ℕ → ℕ → ℕ → List (K.Value × V.Value) → Type 0
  Entries p i lo lo2 [] = lo2 ≡ lo
  Entries p i lo lo2 (e ∷ es) =
      (mid : ℕ) × (next : ℕ) × K.Means b lo p (p + key_at (layout_of K V E) i) mid e.0
      × V.Means b mid p (p + value_at (layout_of K V E) i) next e.1 × Entries p (i + 1) next lo2 es

  -- the node at p spells a tree in the window from lo to hi
  abbrev mutual
    pub Spells : ℕ → ℕ → ℕ → Tree (K.Value × V.Value) → Type 0
    Spells lo hi p (leaf m) =
        IsNodeAt (layout_of K V E) b lo hi p 0 (leaf_size (layout_of K V E))
        × (number_at b (p + len_at (layout_of K V E)) 4 ≡ length m) × (length m ≤ E) × (lo2 : ℕ) × Entries p 0 lo lo2 m
    Spells lo hi p (inner row) =
        IsNodeAt (layout_of K V E) b lo hi p 1 (inner_size (layout_of K V E)) × (length (row_entries row) ≡ E) × (mid : ℕ)
        × SpellsRow p 0 lo mid row × (lo2 : ℕ) × Entries p 0 mid lo2 (row_entries row)

    -- its pointers from number i on spell the children of a row: the first starts its window at lo, the last leaves mid
    pub SpellsRow : ℕ → ℕ → ℕ → ℕ → Row (K.Value × V.Value) → Type 0
    SpellsRow p i lo mid (last c) = SpellsChild p i lo mid c
    SpellsRow p i lo mid (step c e row) = (next : ℕ) × SpellsChild p i lo next c × SpellsRow p (i + 1) next mid row

    -- its pointer number i spells a child in the window from lo to p, and leaves next
    pub SpellsChild : ℕ → ℕ → ℕ → ℕ → Child (K.Value × V.Value) → Type 0
    SpellsChild p i lo next absent = (target_at b (p + pointer_at (layout_of K V E) i) ≡ None) × (next ≡ lo)
    SpellsChild p i lo next (child t) =
        (q : ℕ) × (target_at b (p + pointer_at (layout_of K V E) i) ≡ Some (pos q)) × Spells lo p q t
        × (next ≡ q + root_size (layout_of K V E) t)

  -- the root at a place: a tree of at most 32 levels with so many entries as the length says
  pub record SpellsRoot (lo hi at lo2 : ℕ) (m : List (K.Value × V.Value)) : Type 0 where
    pub start : ℕ
    pub tree : Tree (K.Value × V.Value)
    pub leads : place_at b at ≡ pos start
    pub spelled : Spells lo hi start tree
    pub levels : height tree ≤ 32
    pub means : m ≡ list tree
    pub total : length m ≡ number_at b (at + 4) 4
    pub left : lo2 ≡ start + root_size (layout_of K V E) tree

  -- the eight bytes at a position are a map in the window from lo to hi, and leave it from lo2 on
  pub record Accepted (lo hi at lo2 : ℕ) (m : List (K.Value × V.Value)) : Type 0 where
    pub short : length b ≤ 4294967295
    pub window : lo ≤ hi
    pub before : hi ≤ at
    pub aligned : at % 4 ≡ 0
    pub room : at + 8 ≤ length b
    pub root : ((number_at b (at + 4) 4 ≡ 0) × (m ≡ []) × (lo2 ≡ lo)) ⊎ ((number_at b (at + 4) 4 ≢ 0) × SpellsRoot lo hi at lo2 m)

  -- its tree; that of no entries is an empty leaf
  abbrev pub accepted_tree : (lo hi at lo2 : ℕ) (m : List (K.Value × V.Value)) → Accepted lo hi at lo2 m → Tree (K.Value × V.Value)
  accepted_tree lo hi at lo2 m a = elim a.root [ inl h ↦ leaf [] | inr h ↦ h.1.tree ]

  -- the nodes of its tree
  abbrev pub accepted_nodes : (lo hi at lo2 : ℕ) (m : List (K.Value × V.Value)) → Accepted lo hi at lo2 m → ℕ
  accepted_nodes lo hi at lo2 m a = elim a.root [ inl h ↦ 0 | inr h ↦ nodes h.1.tree ]

-- each tree that a buffer spells has the shape, so it competes with those of as many entries
abbrev pub SpelledHasShape : Kind → Kind → ℕ → Type 0
SpelledHasShape K V E = (b : List ℕ) (lo hi p : ℕ) (t : Tree (K.Value × V.Value)) → Spells K V E b lo hi p t → HasShape E t
