-- Pieces of an archive that have the first levels of its tree.
use Rattle.std.specs.Prelude.{◌≡◌, ℕ, zero, suc, ◌+◌, ◌≤◌, ◌<◌, List, [], ◌∷◌, Contains, length, Some, ◌⊎◌}
use Rattle.rkyv_btree_portable.specs.declared.check.Window.{Window}
use Rattle.rkyv_btree_format.specs.Layout.{key_at}
use Rattle.rkyv_btree_format.specs.OwnBytes.{own_at}
use Rattle.rkyv_btree_walk.specs.Below.{root_place}
use Rattle.rkyv_btree_walk.specs.Nodes.{child_place, entry_count}
use Rattle.btreekv_commands.specs.Nodes.{node_part, part, text_layout, text_part}
use Rattle.btreekv_commands.specs.Opening.{texts}

-- a piece has all of a part
abbrev pub IsWithin : Window → Window → Type 0
IsWithin part_ piece = (piece.lo ≤ part_.lo) × (part_.hi ≤ piece.hi)

-- one of the pieces has all of a part
abbrev pub Cover : List Window → Window → Type 0
Cover pieces part_ = (piece : Window) × Contains pieces piece × IsWithin part_ piece

-- between a piece and the next are 64 bytes or more
abbrev pub AreApart : List Window → Type 0
AreApart [] = Unit {0}
AreApart (p ∷ []) = Unit {0}
AreApart (p ∷ q ∷ ps) = (p.hi + 64 ≤ q.lo) × AreApart (q ∷ ps)

-- the node at q is on the first levels of the tree at p
abbrev pub IsOnTop : List ℕ → ℕ → ℕ → ℕ → Type 0
IsOnTop b zero p q = ⊥
IsOnTop b (suc levels) p q =
    (q ≡ p) ⊎ ((i : ℕ) × (c : ℕ) × (i ≤ 5) × (child_place text_layout b p i ≡ Some c) × IsOnTop b levels c q)

-- pieces of an archive that have the first levels of its tree: its last eight bytes, and each node with the texts of its keys
pub record ArePieces (b : List ℕ) (levels : ℕ) (pieces : List Window) : Type 0 where
  pub inside : (piece : Window) → Contains pieces piece → (piece.lo ≤ piece.hi) × (piece.hi ≤ length b)
  pub apart : AreApart pieces
  pub own : Cover pieces (part (own_at texts b) (length b))
  pub nodes : (root p : ℕ) → root_place b (own_at texts b) ≡ Some root → IsOnTop b levels root p → Cover pieces (node_part b p)
  pub keys : (root p i : ℕ) → root_place b (own_at texts b) ≡ Some root → IsOnTop b levels root p
      → i < entry_count text_layout b p → Cover pieces (text_part b (p + key_at text_layout i))
