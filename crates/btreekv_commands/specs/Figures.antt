-- How large an archive is, and of what.
use Rattle.std.specs.Prelude.{ℕ, ◌+◌, ◌-◌, ◌*◌, ◌/◌, ◌++◌, ◌∷◌, [], List, codes, decimal, length, max, nat_eq, if◌then◌else◌}
use Rattle.std.proofs.Common.{inl, inr}
use Rattle.rkyv_btree_shape.specs.Logarithm.{ilog}
use Rattle.rkyv_btree_shape.specs.Tree.{Tree, leaf, inner, Row, last, step, Child, absent, child, row_entries}
use Rattle.btreekv_commands.specs.Lines.{Entry}
use Rattle.btreekv_commands.specs.Opening.{IsArchive}
use Rattle.btreekv_commands.specs.declared.tree_figures.TreeFigures.{TreeFigures}

-- the levels of the smallest tree of so many entries, five in a node
abbrev pub least_levels : ℕ → ℕ
least_levels entries = if nat_eq entries 0 then 0 else 1 + ilog 6 entries

-- the bytes of keys and of values
abbrev pub key_bytes : List Entry → ℕ
key_bytes [] = 0
key_bytes (e ∷ es) = length e.0 + key_bytes es

abbrev pub value_bytes : List Entry → ℕ
value_bytes [] = 0
value_bytes (e ∷ es) = length e.1 + value_bytes es

-- the figures of no node, of a leaf with these entries, and of an inner node without those below it
abbrev pub nothing : TreeFigures
nothing = record { levels = 0; inner_nodes = 0; leaves = 0; key_bytes = 0; value_bytes = 0 }

abbrev pub of_leaf : ℕ → ℕ → TreeFigures
of_leaf keys values = record { levels = 1; inner_nodes = 0; leaves = 1; key_bytes = keys; value_bytes = values }

abbrev pub of_inner : ℕ → ℕ → TreeFigures
of_inner keys values = record { levels = 1; inner_nodes = 1; leaves = 0; key_bytes = keys; value_bytes = values }

-- the figures of trees side by side: of levels the greater number, and of all else the sum
abbrev pub beside : TreeFigures → TreeFigures → TreeFigures
beside a b = record {
  levels = max a.levels b.levels;
  inner_nodes = a.inner_nodes + b.inner_nodes;
  leaves = a.leaves + b.leaves;
  key_bytes = a.key_bytes + b.key_bytes;
  value_bytes = a.value_bytes + b.value_bytes;
}

-- the figures of a node and of what is below it: all are sums
abbrev pub above : TreeFigures → TreeFigures → TreeFigures
above a b = record {
  levels = a.levels + b.levels;
  inner_nodes = a.inner_nodes + b.inner_nodes;
  leaves = a.leaves + b.leaves;
  key_bytes = a.key_bytes + b.key_bytes;
  value_bytes = a.value_bytes + b.value_bytes;
}

-- the figures of a tree
abbrev mutual
  pub tree_figures : Tree Entry → TreeFigures
  tree_figures (leaf entries) = of_leaf (key_bytes entries) (value_bytes entries)
  tree_figures (inner row) = above (of_inner (key_bytes (row_entries row)) (value_bytes (row_entries row))) (row_figures row)

  pub row_figures : Row Entry → TreeFigures
  row_figures (last c) = child_figures c
  row_figures (step c e row) = beside (child_figures c) (row_figures row)

  pub child_figures : Child Entry → TreeFigures
  child_figures absent = nothing
  child_figures (child t) = tree_figures t

-- the bytes of the nodes and of the texts of a tree: 108 of an inner node, and 88 of a leaf
abbrev pub size_of : TreeFigures → ℕ
size_of f = 108 * f.inner_nodes + (88 * f.leaves + (f.key_bytes + f.value_bytes))

-- the figures of the tree of an archive
abbrev pub archive_figures : (input : List ℕ) (entries : List Entry) → IsArchive input entries → TreeFigures
archive_figures input entries is = elim is.means.root [ inl none ↦ nothing | inr some ↦ tree_figures some.1.tree ]

-- of 100 places for entries in so many nodes, so many are taken
abbrev pub fill_of : ℕ → ℕ → ℕ
fill_of entries nodes = if nat_eq nodes 0 then 0 else (100 * entries) / (5 * nodes)

-- lines of a name and a number each
abbrev pub lines : List (List ℕ × ℕ) → List ℕ
lines [] = []
lines (row ∷ others) = (row.0 ++ (decimal row.1 ++ 10 ∷ [])) ++ lines others

-- the lines of an archive of so many entries and bytes, whose tree has these figures
unfoldable pub rows : ℕ → TreeFigures → ℕ → List (List ℕ × ℕ)
rows entries f bytes =
    (codes "entries ", entries) ∷ (codes "levels ", f.levels) ∷ (codes "least levels ", least_levels entries) ∷
    (codes "inner nodes ", f.inner_nodes) ∷ (codes "leaves ", f.leaves) ∷
    (codes "fill percent ", fill_of entries (f.inner_nodes + f.leaves)) ∷
    (codes "inner node bytes ", 108 * f.inner_nodes) ∷ (codes "leaf bytes ", 88 * f.leaves) ∷
    (codes "key bytes ", f.key_bytes) ∷ (codes "value bytes ", f.value_bytes) ∷
    (codes "map bytes ", 8) ∷ (codes "unused bytes ", bytes - (size_of f + 8)) ∷ (codes "bytes ", bytes) ∷ []

abbrev pub figures : ℕ → TreeFigures → ℕ → List ℕ
figures entries f bytes = lines (rows entries f bytes)
