-- How a tree is written as far as its entries have come: its first nodes, and before the next one the writes of its first
-- entries.
use Rattle.std.specs.Prelude.{◌≡◌, ℕ, ◌⊎◌, List, ◌++◌, Option}
use Rattle.rkyv_btree_portable.specs.InPlace.{OwnBytes}
use Rattle.rkyv_btree_format.specs.Layout.{NodeLayout, leaf_size, inner_size}
use Rattle.rkyv_btree_shape.specs.Tree.{Tree, leaf, inner, Row, last, step, Child, absent, child, row_entries}
use Rattle.rkyv_btree_writer.specs.Archiving.{Archival}
use Rattle.rkyv_btree_writer.specs.Writing.{Writing, Write}
use Rattle.rkyv_btree_writing_laws.specs.Entries.{AreSerialised}
use Rattle.rkyv_btree_writing_laws.specs.Image.{leaf_image, inner_image}
use Rattle.rkyv_btree_writing_laws.specs.Written.{NodeWritten, RowWritten, ChildWritten}

module _ {M N R S : Type 0} (s : NodeLayout) (K : Archival M R) (V : Archival N S) where
  -- the first of a node's entries were serialised, or the whole node was written
  pub data NodeBegun (image : ℕ → List OwnBytes → List Write) (size : ℕ) (from : Writing) (xs : List (M × N)) (to : Writing) : Type 0 where
    between : (first others : List (M × N)) (keys : List R) (values : List S) → xs ≡ first ++ others
        → AreSerialised K V from first keys values to → NodeBegun image size from xs to
    whole : (root : ℕ) → NodeWritten s K V image size from xs root to → NodeBegun image size from xs to

  abbrev mutual
    pub TreeBegun : Writing → Tree (M × N) → Writing → Type 0
    TreeBegun from (leaf xs) to = NodeBegun (leaf_image s) (leaf_size s) from xs to
    TreeBegun from (inner row) to =
        RowBegun from row to
        ⊎ ((roots : List (Option ℕ)) × (mid : Writing) × RowWritten s K V from row roots mid
        × NodeBegun (λ at owns. inner_image s at owns roots) (inner_size s) mid (row_entries row) to)

    pub RowBegun : Writing → Row (M × N) → Writing → Type 0
    RowBegun from (last c) to = ChildBegun from c to
    RowBegun from (step c x row) to = ChildBegun from c to ⊎ ((root : Option ℕ) × (mid : Writing) × ChildWritten s K V from c root mid × RowBegun mid row to)

    pub ChildBegun : Writing → Child (M × N) → Writing → Type 0
    ChildBegun from absent to = to ≡ from
    ChildBegun from (child t) to = TreeBegun from t to
