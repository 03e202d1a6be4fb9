-- What is wrong with bytes that are no map. The cases stand in the order of checking, and each has what the ones before
-- it found right.
use Rattle.std.specs.Prelude.{◌≡◌, ◌≢◌, ℕ, zero, suc, ◌+◌, ◌%◌, ◌≤◌, ◌<◌, List, [], ◌∷◌, length, Some, ℤ, pos, ◌+ℤ◌, ◌<ℤ◌}
use Rattle.rkyv_btree_portable.specs.declared.refusal.Refusal.{Refusal}
use Rattle.rkyv_btree_portable.specs.declared.refusal.Refusal.TheVariants.{OutOfRange, Misaligned, BadKind, InvalidLength}
use Rattle.rkyv_btree_portable.specs.declared.refusal.Refusal.TheVariants.{BadEntry, TooDeep, EntriesLengthMismatch, OutOfOrder}
use Rattle.rkyv_btree_portable.specs.Bytes.{number_at, target_at, place_at}
use Rattle.rkyv_btree_portable.specs.Kind.{Kind}
use Rattle.rkyv_btree_format.specs.Layout.{layout_of, key_at, value_at, len_at, leaf_size, inner_size, pointer_at, align}
use Rattle.rkyv_btree_portable.specs.Refusing.{HasPlace, Misplaced, MeansNothing}
use Rattle.rkyv_btree_format.specs.Spells.{IsNodeAt, Spells, SpellsChild, Accepted}
use Rattle.rkyv_btree_shape.specs.Tree.{Tree, Child, list, height, child_height}

module _ (K V : Kind) (E : ℕ) (b : List ℕ) where
  -- the lengths that a leaf and a map say
  abbrev pub leaf_len : ℕ → ℕ
  leaf_len start = number_at b (start + len_at (layout_of K V E)) 4

  abbrev pub map_len : ℕ → ℕ
  map_len at = number_at b (at + 4) 4

  -- a node's first byte is this, at a place in the window from lo to hi with room for a leaf
  abbrev pub HasKind : ℕ → ℕ → ℕ → ℕ → Type 0
  HasKind lo hi start kind = IsNodeAt (layout_of K V E) b lo hi start kind (leaf_size (layout_of K V E))

  -- the first byte of an inner node, at a place with room for it
  abbrev pub IsInner : ℕ → ℕ → ℕ → Type 0
  IsInner lo hi start = IsNodeAt (layout_of K V E) b lo hi start 1 (inner_size (layout_of K V E))

  -- of so many entries of the node at p, from number i on in a window from lo on, the first key or value that means
  -- nothing stands at a position
  pub data RefusesEntries (p : ℕ) : ℕ → ℕ → ℕ → ℕ → Type 0 where
    in_key : {n i lo : ℕ} → MeansNothing K b lo p (p + key_at (layout_of K V E) i) → RefusesEntries p (suc n) i lo (p + key_at (layout_of K V E) i)
    in_value : {n i lo mid : ℕ} {key : K.Value} → K.Means b lo p (p + key_at (layout_of K V E) i) mid key
        → MeansNothing V b mid p (p + value_at (layout_of K V E) i)
        → RefusesEntries p (suc n) i lo (p + value_at (layout_of K V E) i)
    in_later : {n i lo mid next at : ℕ} {key : K.Value} {value : V.Value}
        → K.Means b lo p (p + key_at (layout_of K V E) i) mid key
        → V.Means b mid p (p + value_at (layout_of K V E) i) next value → RefusesEntries p n (i + 1) next at
        → RefusesEntries p (suc n) i lo at

  -- pointers of the node at p, from number i on, spell children of at most so many levels
  abbrev pub Children : ℕ → ℕ → ℕ → ℕ → ℕ → List (Child (K.Value × V.Value)) → Type 0
  Children levels p i lo next [] = next ≡ lo
  Children levels p i lo next (c ∷ cs) = (mid : ℕ) × SpellsChild K V E b p i lo mid c × (child_height c ≤ levels) × Children levels p (i + 1) mid next cs

  mutual
    -- the refusal of a node with so many levels left for it and those below, in the window from lo to hi
    pub data RefusesNode : ℕ → ℤ → ℕ → ℕ → Refusal → Type 0 where
      too_deep : {p : ℤ} {lo hi : ℕ} → RefusesNode zero p lo hi (TooDeep p)
      starts_before : {levels : ℕ} {p : ℤ} {lo hi : ℕ} → p <ℤ pos lo → RefusesNode (suc levels) p lo hi (OutOfRange p)
      ends_past : {levels : ℕ} {p : ℤ} {lo hi : ℕ} → pos hi <ℤ (p +ℤ pos (leaf_size (layout_of K V E))) → RefusesNode (suc levels) p lo hi (OutOfRange p)
      misaligned : {levels lo hi start : ℕ} → lo ≤ start → start + leaf_size (layout_of K V E) ≤ hi
          → start % align (layout_of K V E) ≢ 0 → RefusesNode (suc levels) (pos start) lo hi (Misaligned start)
      bad_kind : {levels lo hi start kind : ℕ} → HasKind lo hi start kind → kind ≢ 0 → kind ≢ 1
          → RefusesNode (suc levels) (pos start) lo hi (BadKind start kind)
      inner_past : {levels lo hi start : ℕ} → HasKind lo hi start 1 → hi < start + inner_size (layout_of K V E)
          → RefusesNode (suc levels) (pos start) lo hi (OutOfRange (pos start))
      leaf_length : {levels lo hi start : ℕ} → HasKind lo hi start 0 → E < leaf_len start
          → RefusesNode (suc levels) (pos start) lo hi (InvalidLength (record { len = leaf_len start; maximum = E }))
      leaf_entry : {levels lo hi start at : ℕ} → HasKind lo hi start 0 → leaf_len start ≤ E
          → RefusesEntries start (leaf_len start) 0 lo at → RefusesNode (suc levels) (pos start) lo hi (BadEntry at)
      in_child : {levels lo hi start : ℕ} {e : Refusal} → IsInner lo hi start → RefusesPointers levels start (suc E) 0 lo e
          → RefusesNode (suc levels) (pos start) lo hi e
      inner_entry : {levels lo hi start mid at : ℕ} → IsInner lo hi start → (children : List (Child (K.Value × V.Value)))
          → length children ≡ suc E → Children levels start 0 lo mid children → RefusesEntries start E 0 mid at
          → RefusesNode (suc levels) (pos start) lo hi (BadEntry at)

    -- of so many pointers of the node at p, from number i on in a window from lo on, the refusal of the first that
    -- spells no child of at most so many levels
    pub data RefusesPointers : ℕ → ℕ → ℕ → ℕ → ℕ → Refusal → Type 0 where
      here : {levels p n i lo : ℕ} {q : ℤ} {e : Refusal} → target_at b (p + pointer_at (layout_of K V E) i) ≡ Some q
          → RefusesNode levels q lo p e → RefusesPointers levels p (suc n) i lo e
      later : {levels p n i lo mid : ℕ} {e : Refusal} → (c : Child (K.Value × V.Value)) → SpellsChild K V E b p i lo mid c
          → child_height c ≤ levels → RefusesPointers levels p n (i + 1) mid e → RefusesPointers levels p (suc n) i lo e

  -- the refusal of the bytes at a position as a map, in the window from lo to hi
  pub data RefusesMap (lo hi at : ℕ) : Refusal → Type 0 where
    misplaced : {e : Refusal} → Misplaced b 8 4 at e → RefusesMap lo hi at e
    in_tree : {e : Refusal} → HasPlace b 8 4 at → map_len at ≢ 0 → RefusesNode 32 (place_at b at) lo hi e → RefusesMap lo hi at e
    other_total : {start : ℕ} → HasPlace b 8 4 at → map_len at ≢ 0 → (t : Tree (K.Value × V.Value)) → place_at b at ≡ pos start
        → Spells K V E b lo hi start t → height t ≤ 32 → length (list t) ≢ map_len at
        → RefusesMap lo hi at (EntriesLengthMismatch (record { entries = length (list t); len = map_len at }))

-- a map has no refusal
abbrev pub NoMapIsRefused : Kind → Kind → ℕ → Type 0
NoMapIsRefused K V E =
    (b : List ℕ) (lo hi at left : ℕ) (m : List (K.Value × V.Value)) (e : Refusal) → RefusesMap K V E b lo hi at e
    → Accepted K V E b lo hi at left m → ⊥

-- bytes have one refusal at most
abbrev pub OneRefusal : Kind → Kind → ℕ → Type 0
OneRefusal K V E = (b : List ℕ) (lo hi at : ℕ) (e d : Refusal) → RefusesMap K V E b lo hi at e → RefusesMap K V E b lo hi at d → e ≡ d

-- a node with a refusal spells no tree of the levels that are left
abbrev pub NoTreeIsRefused : Kind → Kind → ℕ → Type 0
NoTreeIsRefused K V E =
    (b : List ℕ) (levels lo hi start : ℕ) (e : Refusal) (t : Tree (K.Value × V.Value))
    → RefusesNode K V E b levels (pos start) lo hi e → Spells K V E b lo hi start t → height t ≤ levels → ⊥

-- no bytes are refused as a map for the order of their keys
abbrev pub OrderIsNotRefused : Kind → Kind → ℕ → Type 0
OrderIsNotRefused K V E = (b : List ℕ) (lo hi at index : ℕ) → RefusesMap K V E b lo hi at (OutOfOrder index) → ⊥
