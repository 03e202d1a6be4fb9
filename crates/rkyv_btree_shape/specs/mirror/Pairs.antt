-- The first children of a row, each with the entry after it.
use Rattle.std.specs.Prelude.{◌≡◌, ℕ, ◌-◌, min, List, [], ◌∷◌, ◌++◌}
use Rattle.rkyv_btree_shape.specs.Tree.{Row, last, step, Child, child_list}

-- a row that begins with these children, each before its entry
abbrev pub row_from : {X : Type 0} → List (Child X × X) → Row X → Row X
row_from [] row = row
row_from (p ∷ ps) row = step p.0 p.1 (row_from ps row)

-- their entries, those below included
abbrev pub pairs_list : {X : Type 0} → List (Child X × X) → List X
pairs_list [] = []
pairs_list (p ∷ ps) = child_list p.0 ++ p.1 ∷ pairs_list ps

-- the children took min(rest, full) each
abbrev pub FilledPairs : {X : Type 0} → (ℕ → Child X → Type 0) → ℕ → ℕ → List (Child X × X) → Type 0
FilledPairs F full rest [] = Unit {0}
FilledPairs F full rest (p ∷ ps) = F (min rest full) p.0 × FilledPairs F full (rest - full) ps

-- the first child of a row
abbrev pub Leads : {X : Type 0} → Child X → Row X → Type 0
Leads c (last d) = c ≡ d
Leads c (step d x row) = c ≡ d
