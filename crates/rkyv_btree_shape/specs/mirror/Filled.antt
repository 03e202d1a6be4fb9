-- Trees whose last level is filled from the left, by recursion over their levels.
use Rattle.std.specs.Prelude.{◌≡◌, ℕ, zero, suc, ◌+◌, ◌-◌, ◌*◌, ◌^◌, ◌≤◌, ◌⊎◌, min, length}
use Rattle.rkyv_btree_shape.specs.Tree.{leaf, inner, Row, last, step, Child, absent, child, row_entries}

-- one level: no entry and no node, or a leaf of 1 to E entries
abbrev pub FilledLeaf : {X : Type 0} → ℕ → ℕ → Child X → Type 0
FilledLeaf E ll absent = ll ≡ 0
FilledLeaf E ll (child (leaf xs)) = (length xs ≡ ll) × (1 ≤ ll) × (ll ≤ E)
FilledLeaf E ll (child (inner row)) = ⊥

-- the children from the left take min(rest, full) each
abbrev pub FilledRow : {X : Type 0} → (ℕ → Child X → Type 0) → ℕ → ℕ → Row X → Type 0
FilledRow F full rest (last c) = (rest ≤ full) × F rest c
FilledRow F full rest (step c x row) = F (min rest full) c × FilledRow F full (rest - full) row

-- An optional tree with g full levels above a last one of ll entries, which is filled from the left.
abbrev pub Filled : {X : Type 0} → ℕ → ℕ → ℕ → Child X → Type 0
Filled E zero ll c = FilledLeaf E ll c
Filled E (suc g) ll absent = ⊥
Filled E (suc g) ll (child (leaf xs)) = (g ≡ 0) × (ll ≡ 0) × (length xs ≡ E)
Filled E (suc g) ll (child (inner row)) = (1 ≤ ll + g) × (length (row_entries row) ≡ E) × FilledRow (Filled E g) (E * (E + 1) ^ g) ll row

-- the entries that a child with g levels above the last one takes of the last level, at most
abbrev pub most : ℕ → ℕ → ℕ
most E g = E * (E + 1) ^ g

-- a child of the g levels above the last, with the first of so many entries that are left for the last level
abbrev pub IsNext : {X : Type 0} → ℕ → ℕ → ℕ → Child X → Type 0
IsNext E g left c = Filled E g (min left (most E g)) c

-- it is a leaf of n entries, or nothing for none
abbrev pub IsLeafOf : ℕ → ℕ → ℕ → ℕ → Type 0
IsLeafOf E g left n = ((g ≡ 0) × (n ≡ min left E)) ⊎ ((g ≡ 1) × (left ≡ 0) × (n ≡ E))
