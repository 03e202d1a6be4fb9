-- How the writing of a tree begins: with nothing, and with all of it.
use Rattle.std.proofs.Common.{[], Option, inl, inr, refl, ℕ}
use Rattle.rkyv_btree_format.specs.Layout.{NodeLayout}
use Rattle.rkyv_btree_shape.specs.Tree.{Tree, leaf, inner, Row, last, step, Child, absent, child}
use Rattle.rkyv_btree_writer.specs.Archiving.{Archival}
use Rattle.rkyv_btree_writer.specs.Writing.{Writing}
use Rattle.rkyv_btree_writing_laws.specs.Begun.{between, whole, TreeBegun, RowBegun, ChildBegun}
use Rattle.rkyv_btree_writing_laws.specs.Written.{ChildWritten}

module _ {M N R S : Type 0} (s : NodeLayout) (K : Archival M R) (V : Archival N S) where
  -- nothing written is a beginning
  mutual
    untouched_tree : (from : Writing) (t : Tree (M × N)) → TreeBegun s K V from t from
    untouched_tree from (leaf xs) = between [] xs [] [] refl (refl, refl, refl)
    untouched_tree from (inner row) = inl (untouched_row from row)

    untouched_row : (from : Writing) (row : Row (M × N)) → RowBegun s K V from row from
    untouched_row from (last c) = untouched from c
    untouched_row from (step c x row) = inl (untouched from c)

    pub untouched : (from : Writing) (c : Child (M × N)) → ChildBegun s K V from c from
    untouched from absent = refl
    untouched from (child t) = untouched_tree from t

  -- what is written has begun
  tree_begun : (from : Writing) (t : Tree (M × N)) (root : Option ℕ) (to : Writing) → ChildWritten s K V from (child t) root to → ChildBegun s K V from (child t) to
  tree_begun from (leaf xs) root to h = whole h.0 h.1
  tree_begun from (inner row) root to h = inr (h.1.0, h.1.1, h.1.2, whole h.0 h.1.3)

  pub written_begun : (from : Writing) (c : Child (M × N)) (root : Option ℕ) (to : Writing) → ChildWritten s K V from c root to → ChildBegun s K V from c to
  written_begun from absent root to h = h.1
  written_begun from (child t) root to h = tree_begun from t root to h
