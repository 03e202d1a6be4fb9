-- What the nodes, keys and values of a spelled tree take of the bytes.
use Rattle.std.specs.Prelude.{ℕ, ◌+◌, ◌*◌, ◌≤◌, ◌<◌, List, [], ◌∷◌, ◌++◌, length}
use Rattle.rkyv_btree_portable.specs.Kind.{Kind}
use Rattle.rkyv_btree_format.specs.Layout.{layout_of, leaf_size, inner_size}
use Rattle.rkyv_btree_format.specs.Spells.{Entries, Spells, SpellsRow, SpellsChild}
use Rattle.rkyv_btree_shape.specs.Tree.{Tree, leaf, inner, Row, last, step, Child, absent, child, row_entries, nodes}

-- the bytes from a position up to another
pub record Range : Type 0 where
  pub first : ℕ
  pub past : ℕ

-- no byte is in both
abbrev pub Apart : Range → Range → Type 0
Apart r s = (x : ℕ) → r.first ≤ x → x < r.past → s.first ≤ x → x < s.past → ⊥

abbrev pub ApartFromAll : Range → List Range → Type 0
ApartFromAll r [] = Unit {0}
ApartFromAll r (s ∷ ss) = Apart r s × ApartFromAll r ss

-- no byte is in two of the ranges
abbrev pub PairwiseApart : List Range → Type 0
PairwiseApart [] = Unit {0}
PairwiseApart (r ∷ rs) = ApartFromAll r rs × PairwiseApart rs

module _ (K V : Kind) (E : ℕ) (b : List ℕ) where
  -- what each key and value takes from its window
  abbrev pub entry_ranges : (p i lo lo2 : ℕ) (m : List (K.Value × V.Value)) → Entries K V E b p i lo lo2 m → List Range
  entry_ranges p i lo lo2 [] h = []
  entry_ranges p i lo lo2 (e ∷ es) h = record { first = lo; past = h.0 } ∷ record { first = h.0; past = h.1 } ∷ entry_ranges p (i + 1) h.1 lo2 es h.4

  -- the bytes of each node of a spelled tree, and what each key and value takes from its window
  abbrev mutual
    pub claimed : (lo hi p : ℕ) (t : Tree (K.Value × V.Value)) → Spells K V E b lo hi p t → List Range
    claimed lo hi p (leaf m) h = entry_ranges p 0 lo h.3 m h.4 ++ (record { first = p; past = p + leaf_size (layout_of K V E) } ∷ [])
    claimed lo hi p (inner row) h =
        row_claimed p 0 lo h.2 row h.3
        ++ (entry_ranges p 0 h.2 h.4 (row_entries row) h.5 ++ (record { first = p; past = p + inner_size (layout_of K V E) } ∷ []))

    pub row_claimed : (p i lo mid : ℕ) (row : Row (K.Value × V.Value)) → SpellsRow K V E b p i lo mid row → List Range
    row_claimed p i lo mid (last c) h = child_claimed p i lo mid c h
    row_claimed p i lo mid (step c e row) h = child_claimed p i lo h.0 c h.1 ++ row_claimed p (i + 1) h.0 mid row h.2

    pub child_claimed : (p i lo next : ℕ) (c : Child (K.Value × V.Value)) → SpellsChild K V E b p i lo next c → List Range
    child_claimed p i lo next absent h = []
    child_claimed p i lo next (child t) h = claimed lo p h.0 t h.2

-- what each spelled tree takes is apart
abbrev pub ClaimsAreApart : Kind → Kind → ℕ → Type 0
ClaimsAreApart K V E =
    (b : List ℕ) (lo hi start : ℕ) (t : Tree (K.Value × V.Value)) (h : Spells K V E b lo hi start t)
    → PairwiseApart (claimed K V E b lo hi start t h)

-- so a buffer has no more nodes of a tree than leaves fit into it
abbrev pub NodesAreFew : Kind → Kind → ℕ → Type 0
NodesAreFew K V E =
    (b : List ℕ) (lo hi start : ℕ) (t : Tree (K.Value × V.Value)) → Spells K V E b lo hi start t → hi ≤ length b
    → nodes t * leaf_size (layout_of K V E) ≤ length b
