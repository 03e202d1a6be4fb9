-- What a spelled tree claims follows one another from its window's start to its root's end.
use Rattle.std.proofs.Common.{ℕ, ◌+◌, ◌*◌, ◌≤◌, List, [], ◌∷◌, ◌++◌, sym, subst, arith}
use Rattle.rkyv_btree_verify.specs.Claims.{Range, ApartFromAll, PairwiseApart, entry_ranges, claimed, row_claimed, child_claimed}
use Rattle.rkyv_btree_portable.specs.Kind.{Kind, Leaves, Decides}
use Rattle.rkyv_btree_format.specs.Layout.{layout_of, leaf_size}
use Rattle.rkyv_btree_format.specs.Spells.{Entries, Spells, SpellsRow, SpellsChild, root_size}
use Rattle.rkyv_btree_shape.specs.Tree.{Tree, leaf, inner, Row, last, step, Child, absent, child, row_entries, nodes, row_nodes, child_nodes}
use Rattle.rkyv_btree_format.proofs.Sizes.{IsSound, follow}

-- each range begins where the one before it ends, or later
abbrev pub Ascend : ℕ → ℕ → List Range → Type 0
Ascend lo hi [] = lo ≤ hi
Ascend lo hi (r ∷ rs) = (lo ≤ r.first) × (r.first ≤ r.past) × Ascend r.past hi rs

ascend-append : (rs ss : List Range) (lo mid hi : ℕ) → Ascend lo mid rs → Ascend mid hi ss → Ascend lo hi (rs ++ ss)
ascend-append [] ss lo mid hi a b = sooner ss lo mid hi a b
  where
    sooner : (ss : List Range) (lo mid hi : ℕ) → lo ≤ mid → Ascend mid hi ss → Ascend lo hi ss
    sooner [] lo mid hi le b = omega arith
    sooner (s ∷ ss) lo mid hi le b = (omega (arith, b.0), b.1, b.2)
ascend-append (r ∷ rs) ss lo mid hi a b = (a.0, a.1, ascend-append rs ss r.past mid hi a.2 b)

apart_from : (r : Range) (rs : List Range) (lo hi : ℕ) → r.past ≤ lo → Ascend lo hi rs → ApartFromAll r rs
apart_from r [] lo hi before a = tt
apart_from r (s ∷ rs) lo hi before a = ((λ x a1 a2 b1 b2. omega (arith, a.0)), apart_from r rs s.past hi (omega (arith, a.0, a.1)) a.2)

pub apart : (rs : List Range) (lo hi : ℕ) → Ascend lo hi rs → PairwiseApart rs
apart [] lo hi a = tt
apart (r ∷ rs) lo hi a = (apart_from r rs r.past hi (omega arith) a.2, apart rs r.past hi a.2)

pub root_inside : (K V : Kind) (E : ℕ) (b : List ℕ) (t : Tree (K.Value × V.Value)) (lo hi p : ℕ) → Spells K V E b lo hi p t → p + root_size (layout_of K V E) t ≤ hi
root_inside K V E b (leaf m) lo hi p h = h.0.room
root_inside K V E b (inner row) lo hi p h = h.0.room

module _ (K V : Kind) (E : ℕ) (keys values : Leaves) (b : List ℕ) (ks : Decides K keys) (vs : Decides V values) where
  entries_ascend : (m : List (K.Value × V.Value)) (p i lo lo2 : ℕ) (h : Entries K V E b p i lo lo2 m) → Ascend lo lo2 (entry_ranges K V E b p i lo lo2 m h)
  entries_ascend [] p i lo lo2 h = omega arith
  entries_ascend (e ∷ es) p i lo lo2 h =
      let k = ks.within b lo p _ h.0 e.0 h.2 in
      let v = vs.within b h.0 p _ h.1 e.1 h.3 in
      (omega arith, k.0, (omega arith, v.0, entries_ascend es p (i + 1) h.1 lo2 h.4))

  entries_below : (m : List (K.Value × V.Value)) (p i lo lo2 : ℕ) → lo ≤ p → Entries K V E b p i lo lo2 m → lo2 ≤ p
  entries_below [] p i lo lo2 before h = omega arith
  entries_below (e ∷ es) p i lo lo2 before h = let v = vs.within b h.0 p _ h.1 e.1 h.3 in entries_below es p (i + 1) h.1 lo2 v.1 h.4

  child_below : (c : Child (K.Value × V.Value)) (p i lo next : ℕ) → lo ≤ p → SpellsChild K V E b p i lo next c → next ≤ p
  child_below absent p i lo next before h = omega (arith, h.1)
  child_below (child (leaf m)) p i lo next before h = omega (arith, h.3, h.2.0.room)
  child_below (child (inner row)) p i lo next before h = omega (arith, h.3, h.2.0.room)

  row_below : (row : Row (K.Value × V.Value)) (p i lo mid : ℕ) → lo ≤ p → SpellsRow K V E b p i lo mid row → mid ≤ p
  row_below (last c) p i lo mid before h = child_below c p i lo mid before h
  row_below (step c e row) p i lo mid before h = row_below row p (i + 1) h.0 mid (child_below c p i lo h.0 before h.1) h.2

  mutual
    pub tree_ascends : (t : Tree (K.Value × V.Value)) (lo hi p : ℕ) (h : Spells K V E b lo hi p t) → Ascend lo (p + root_size (layout_of K V E) t) (claimed K V E b lo hi p t h)
    tree_ascends (leaf m) lo hi p h =
        ascend-append (entry_ranges K V E b p 0 lo h.3 m h.4) _ lo h.3 _ (entries_ascend m p 0 lo h.3 h.4)
        (entries_below m p 0 lo h.3 h.0.start h.4, omega arith, omega arith)
    tree_ascends (inner row) lo hi p h =
        let children = row_below row p 0 lo h.2 h.0.start h.3 in
        ascend-append (row_claimed K V E b p 0 lo h.2 row h.3) _ lo h.2 _ (row_ascends row p 0 lo h.2 h.3)
        (ascend-append (entry_ranges K V E b p 0 h.2 h.4 (row_entries row) h.5) _ h.2 h.4 _ (entries_ascend (row_entries row) p 0 h.2 h.4 h.5)
        (entries_below (row_entries row) p 0 h.2 h.4 children h.5, omega arith, omega arith))

    pub row_ascends : (row : Row (K.Value × V.Value)) (p i lo mid : ℕ) (h : SpellsRow K V E b p i lo mid row) → Ascend lo mid (row_claimed K V E b p i lo mid row h)
    row_ascends (last c) p i lo mid h = child_ascends c p i lo mid h
    row_ascends (step c e row) p i lo mid h = ascend-append (child_claimed K V E b p i lo h.0 c h.1) _ lo h.0 mid (child_ascends c p i lo h.0 h.1) (row_ascends row p (i + 1) h.0 mid h.2)

    pub child_ascends : (c : Child (K.Value × V.Value)) (p i lo next : ℕ) (h : SpellsChild K V E b p i lo next c) → Ascend lo next (child_claimed K V E b p i lo next c h)
    child_ascends absent p i lo next h = omega (arith, h.1)
    child_ascends (child t) p i lo next h = subst (λ (n : ℕ). Ascend lo n (claimed K V E b lo p h.0 t h.2)) (sym h.3) (tree_ascends t lo p h.0 h.2)

  module _ (sound : IsSound (layout_of K V E)) where
    mutual
      -- each node takes a leaf's bytes at least
      pub tree_nodes : (t : Tree (K.Value × V.Value)) (lo hi p : ℕ) → Spells K V E b lo hi p t → nodes t * leaf_size (layout_of K V E) + lo ≤ p + root_size (layout_of K V E) t
      tree_nodes (leaf m) lo hi p h = omega (arith, h.0.start)
      tree_nodes (inner row) lo hi p h =
          let s = layout_of K V E in
          let f = follow s sound in
          let r = row_nodes_below row p 0 lo h.2 h.3 in
          let below = row_below row p 0 lo h.2 h.0.start h.3 in
          omega arith

      pub row_nodes_below : (row : Row (K.Value × V.Value)) (p i lo mid : ℕ) → SpellsRow K V E b p i lo mid row → row_nodes row * leaf_size (layout_of K V E) + lo ≤ mid
      row_nodes_below (last c) p i lo mid h = child_nodes_below c p i lo mid h
      row_nodes_below (step c e row) p i lo mid h =
          let first = child_nodes_below c p i lo h.0 h.1 in
          let rest = row_nodes_below row p (i + 1) h.0 mid h.2 in
          omega arith

      pub child_nodes_below : (c : Child (K.Value × V.Value)) (p i lo next : ℕ) → SpellsChild K V E b p i lo next c → child_nodes c * leaf_size (layout_of K V E) + lo ≤ next
      child_nodes_below absent p i lo next h = omega (arith, h.1)
      child_nodes_below (child t) p i lo next h = let below = tree_nodes t lo p h.0 h.2 in omega (arith, h.3)
