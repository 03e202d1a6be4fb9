-- Trees of any entries, whatever bytes they lie in: leaves with a list of entries, and inner nodes with a row of children
-- and entries in turn. A child may be absent, and a leaf empty. Their list, levels, nodes, and the bound E on a node's
-- entries are functions of the tree alone.
use Rattle.std.specs.Prelude.{◌≡◌, ℕ, ◌+◌, ◌≤◌, List, [], ◌∷◌, ◌++◌, length}
use Rattle.std.proofs.Common.{max}

-- a tree of entries; along a row stand a child, an entry, a child, an entry and so on, and a last child
mutual
  pub data Tree (X : Type 0) : Type 0 where
    leaf : List X → Tree X
    inner : Row X → Tree X

  pub data Row (X : Type 0) : Type 0 where
    last : Child X → Row X
    step : Child X → X → Row X → Row X

  pub data Child (X : Type 0) : Type 0 where
    absent : Child X
    child : Tree X → Child X

abbrev mutual
  pub list : {X : Type 0} → Tree X → List X
  list (leaf xs) = xs
  list (inner row) = row_list row

  pub row_list : {X : Type 0} → Row X → List X
  row_list (last c) = child_list c
  row_list (step c x row) = child_list c ++ x ∷ row_list row

  pub child_list : {X : Type 0} → Child X → List X
  child_list absent = []
  child_list (child t) = list t

-- the entries of the node itself
abbrev pub row_entries : {X : Type 0} → Row X → List X
row_entries (last c) = []
row_entries (step c x row) = x ∷ row_entries row

-- its places for children, from the left
abbrev pub row_children : {X : Type 0} → Row X → List (Child X)
row_children (last c) = c ∷ []
row_children (step c x row) = c ∷ row_children row

-- a leaf has at most E entries, an inner node exactly E
abbrev mutual
  pub HasShape : {X : Type 0} → ℕ → Tree X → Type 0
  HasShape E (leaf xs) = length xs ≤ E
  HasShape E (inner row) = (length (row_entries row) ≡ E) × RowHasShape E row

  pub RowHasShape : {X : Type 0} → ℕ → Row X → Type 0
  RowHasShape E (last c) = ChildHasShape E c
  RowHasShape E (step c x row) = ChildHasShape E c × RowHasShape E row

  pub ChildHasShape : {X : Type 0} → ℕ → Child X → Type 0
  ChildHasShape E absent = Unit
  ChildHasShape E (child t) = HasShape E t

abbrev mutual
  pub height : {X : Type 0} → Tree X → ℕ
  height (leaf xs) = 1
  height (inner row) = 1 + row_height row

  pub row_height : {X : Type 0} → Row X → ℕ
  row_height (last c) = child_height c
  row_height (step c x row) = max (child_height c) (row_height row)

  pub child_height : {X : Type 0} → Child X → ℕ
  child_height absent = 0
  child_height (child t) = height t

-- the number of nodes
abbrev mutual
  pub nodes : {X : Type 0} → Tree X → ℕ
  nodes (leaf xs) = 1
  nodes (inner row) = 1 + row_nodes row

  pub row_nodes : {X : Type 0} → Row X → ℕ
  row_nodes (last c) = child_nodes c
  row_nodes (step c x row) = child_nodes c + row_nodes row

  pub child_nodes : {X : Type 0} → Child X → ℕ
  child_nodes absent = 0
  child_nodes (child t) = nodes t
