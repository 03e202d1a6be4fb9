-- Of each entry of a written tree's list is known what is known of values that were serialised.
use Rattle.std.proofs.Common.{ℕ, List, [], ◌∷◌, Option}
use Rattle.std.proofs.lemmas.List.Elements.{All-nil, All-cons, All-head, All-tail, All-append}
use Rattle.std.specs.List.{All}
use Rattle.rkyv_btree_format.specs.Layout.{NodeLayout}
use Rattle.rkyv_btree_shape.specs.Tree.{Tree, leaf, inner, Row, last, step, Child, absent, child, list, row_list, child_list, row_entries}
use Rattle.rkyv_btree_writer.specs.Archiving.{Archival}
use Rattle.rkyv_btree_writer.specs.Writing.{Writing}
use Rattle.rkyv_btree_writing_laws.specs.Entries.{AreSerialised}
use Rattle.rkyv_btree_writing_laws.specs.Imaged.{EntryIn}
use Rattle.rkyv_btree_writing_laws.specs.Written.{TreeWritten, RowWritten, ChildWritten}

-- all entries of a row, from those of its children and of its node
pub all_of_row : {A : Type 0} (P : A → Type 0) (c : Child A) (x : A) (row : Row A) → All P (child_list c) → P x → All P (row_list row) → All P (row_list (step c x row))
all_of_row P c x row children own later = All-append P (child_list c) (x ∷ row_list row) children (All-cons P x (row_list row) own later)

-- what was serialised is known to be of its type
module _ {M N R S : Type 0} (s : NodeLayout) (K : Archival M R) (V : Archival N S) where
  entries_in : (from : Writing) (xs : List (M × N)) (keys : List R) (values : List S) (to : Writing) → AreSerialised K V from xs keys values to → All (EntryIn K V) xs
  entries_in from [] keys values to h = All-nil (EntryIn K V)
  entries_in from (x ∷ xs) keys values to h = All-cons (EntryIn K V) x xs (h.6.is_in, h.7.is_in) (entries_in h.5 xs h.2 h.3 to h.8)

  mutual
    tree_in : (from : Writing) (t : Tree (M × N)) (root : ℕ) (to : Writing) → TreeWritten s K V from t root to → All (EntryIn K V) (list t)
    tree_in from (leaf xs) root to h = entries_in from xs h.entries.keys h.entries.values h.mid h.entries.serialised
    tree_in from (inner row) root to h = row_in from row h.0 h.1 h.2 (entries_in h.1 (row_entries row) h.3.entries.keys h.3.entries.values h.3.mid h.3.entries.serialised)

    row_in : (from : Writing) (row : Row (M × N)) (roots : List (Option ℕ)) (to : Writing) → RowWritten s K V from row roots to → All (EntryIn K V) (row_entries row) → All (EntryIn K V) (row_list row)
    row_in from (last c) roots to h own = child_in from c h.0 to h.1
    row_in from (step c x row) roots to h own = all_of_row (EntryIn K V) c x row (child_in from c h.0 h.2 h.3) (All-head (EntryIn K V) x (row_entries row) own) (row_in h.2 row h.1 to h.4 (All-tail (EntryIn K V) x (row_entries row) own))

    pub child_in : (from : Writing) (c : Child (M × N)) (root : Option ℕ) (to : Writing) → ChildWritten s K V from c root to → All (EntryIn K V) (child_list c)
    child_in from absent root to h = All-nil (EntryIn K V)
    child_in from (child t) root to h = tree_in from t h.0 to h.1
