-- Whatever stops the writing of a tree, what the writer held stays in front, from the same first position on.
use Rattle.std.proofs.Common.{ℕ, List, [], ◌∷◌, Option, inl, inr}
use Rattle.rkyv_btree_portable.specs.InPlace.{OwnBytes}
use Rattle.rkyv_btree_format.specs.Layout.{NodeLayout, leaf_size, inner_size}
use Rattle.rkyv_btree_shape.specs.Tree.{Tree, leaf, inner, Row, last, step, Child, absent, child, row_entries}
use Rattle.rkyv_btree_writer.specs.Archiving.{Archival, BeginsWith}
use Rattle.rkyv_btree_writer.specs.Writing.{Writing, Write, position}
use Rattle.rkyv_btree_writer.specs.declared.fault.Fault.{Fault}
use Rattle.rkyv_btree_writing_laws.specs.Begun.{between, whole, NodeBegun, TreeBegun, RowBegun, ChildBegun}
use Rattle.rkyv_btree_writing_laws.specs.Kept.{OnlyAppended}
use Rattle.rkyv_btree_writing_laws.proofs.Kept.{then_begins, wrote_begins, went_nowhere, went_on, wrote_went, went_begins, stopped_begins, unserialised_begins}
use Rattle.rkyv_btree_writing_laws.specs.Entries.{AreSerialised, AreUnserialised}
use Rattle.rkyv_btree_writing_laws.specs.Image.{leaf_image, inner_image}
use Rattle.rkyv_btree_writing_laws.specs.Written.{NodeWritten, NodeStopped, in_entries, in_padding, past_end, in_own_bytes, in_node, TreeWritten, RowWritten, ChildWritten, TreeStopped, RowStopped, ChildStopped}

module _ {M N R S : Type 0} (n : NodeLayout) (K : Archival M R) (V : Archival N S) where
  entries_went : (s : Writing) (xs : List (M × N)) (keys : List R) (values : List S) (t : Writing) → AreSerialised K V s xs keys values t → OnlyAppended s t
  entries_went s [] keys values t h = went_nowhere s t h.0
  entries_went s (x ∷ xs) keys values t h = went_on s h.4 t (wrote_went s h.6.writes h.4 h.6.wrote) (went_on h.4 h.5 t (wrote_went h.4 h.7.writes h.5 h.7.wrote) (entries_went h.5 xs h.2 h.3 t h.8))

  node_went : (image : ℕ → List OwnBytes → List Write) (size : ℕ) (s : Writing) (xs : List (M × N)) (root : ℕ) (t : Writing) → NodeWritten n K V image size s xs root t → OnlyAppended s t
  node_went image size s xs root t h = went_on s h.mid t (entries_went s xs h.entries.keys h.entries.values h.mid h.entries.serialised) (wrote_went h.mid (image (position h.mid) h.owns) t h.wrote)

  mutual
    tree_went : (s : Writing) (tree : Tree (M × N)) (root : ℕ) (t : Writing) → TreeWritten n K V s tree root t → OnlyAppended s t
    tree_went s (leaf xs) root t h = node_went (leaf_image n) (leaf_size n) s xs root t h
    tree_went s (inner row) root t h = went_on s h.1 t (row_went s row h.0 h.1 h.2) (node_went (λ (at : ℕ) (owns : List OwnBytes). inner_image n at owns h.0) (inner_size n) h.1 (row_entries row) root t h.3)

    row_went : (s : Writing) (row : Row (M × N)) (roots : List (Option ℕ)) (t : Writing) → RowWritten n K V s row roots t → OnlyAppended s t
    row_went s (last c) roots t h = child_went s c h.0 t h.1
    row_went s (step c x row) roots t h = went_on s h.2 t (child_went s c h.0 h.2 h.3) (row_went h.2 row h.1 t h.4)

    pub child_went : (s : Writing) (c : Child (M × N)) (root : Option ℕ) (t : Writing) → ChildWritten n K V s c root t → OnlyAppended s t
    child_went s absent root t h = went_nowhere s t h.1
    child_went s (child tree) root t h = tree_went s tree h.0 t h.1

  -- what has begun does so too
  begun_node_went : (image : ℕ → List OwnBytes → List Write) (size : ℕ) (s : Writing) (xs : List (M × N)) (t : Writing) → NodeBegun n K V image size s xs t → OnlyAppended s t
  begun_node_went image size s xs t (between first others keys values parts h) = entries_went s first keys values t h
  begun_node_went image size s xs t (whole root h) = went_on s h.mid t (entries_went s xs h.entries.keys h.entries.values h.mid h.entries.serialised) (wrote_went h.mid (image (position h.mid) h.owns) t h.wrote)

  mutual
    begun_tree_went : (s : Writing) (tree : Tree (M × N)) (t : Writing) → TreeBegun n K V s tree t → OnlyAppended s t
    begun_tree_went s (leaf xs) t h = begun_node_went (leaf_image n) (leaf_size n) s xs t h
    begun_tree_went s (inner row) t (inl h) = row_begun_went s row t h
    begun_tree_went s (inner row) t (inr h) = went_on s h.1 t (row_went s row h.0 h.1 h.2) (begun_node_went (λ (at : ℕ) (owns : List OwnBytes). inner_image n at owns h.0) (inner_size n) h.1 (row_entries row) t h.3)

    row_begun_went : (s : Writing) (row : Row (M × N)) (t : Writing) → RowBegun n K V s row t → OnlyAppended s t
    row_begun_went s (last c) t h = begun_went s c t h
    row_begun_went s (step c x row) t (inl h) = begun_went s c t h
    row_begun_went s (step c x row) t (inr h) = went_on s h.1 t (child_went s c h.0 h.1 h.2) (row_begun_went h.1 row t h.3)

    pub begun_went : (s : Writing) (c : Child (M × N)) (t : Writing) → ChildBegun n K V s c t → OnlyAppended s t
    begun_went s absent t h = went_nowhere s t h
    begun_went s (child tree) t h = begun_tree_went s tree t h

  -- so what it held stays in front
  entries_begin : (s : Writing) (xs : List (M × N)) (keys : List R) (values : List S) (t : Writing) → AreSerialised K V s xs keys values t → BeginsWith t s
  entries_begin s xs keys values t h = went_begins s t (entries_went s xs keys values t h)

  row_begins : (s : Writing) (row : Row (M × N)) (roots : List (Option ℕ)) (t : Writing) → RowWritten n K V s row roots t → BeginsWith t s
  row_begins s row roots t h = went_begins s t (row_went s row roots t h)

  pub child_begins : (s : Writing) (c : Child (M × N)) (root : Option ℕ) (t : Writing) → ChildWritten n K V s c root t → BeginsWith t s
  child_begins s c root t h = went_begins s t (child_went s c root t h)

  module _ {E : Type 0} where
    entries_stop : (s : Writing) (xs : List (M × N)) (fault : Fault E) (t : Writing) → AreUnserialised K V s xs fault t → BeginsWith t s
    entries_stop s [] fault t h = absurd h
    entries_stop s (x ∷ xs) fault t (inl h) = unserialised_begins K x.0 s fault t h
    entries_stop s (x ∷ xs) fault t (inr (inl h)) = then_begins s h.1 t (wrote_begins s h.2.writes h.1 h.2.wrote) (unserialised_begins V x.1 h.1 fault t h.3)
    entries_stop s (x ∷ xs) fault t (inr (inr h)) = then_begins s h.2 t (wrote_begins s h.4.writes h.2 h.4.wrote) (then_begins h.2 h.3 t (wrote_begins h.2 h.5.writes h.3 h.5.wrote) (entries_stop h.3 xs fault t h.6))

    node_stops : (image : ℕ → List OwnBytes → List Write) (size : ℕ) (s : Writing) (xs : List (M × N)) (fault : Fault E) (t : Writing) → NodeStopped n K V image size s xs fault t → BeginsWith t s
    node_stops image size s xs fault t (in_entries h) = entries_stop s xs fault t h
    node_stops image size s xs fault t (in_padding keys values mid h stopped) = then_begins s mid t (entries_begin s xs keys values mid h) (stopped_begins mid _ fault t stopped)
    node_stops image size s xs fault t (past_end keys values h e far) = then_begins s h.mid t (entries_begin s xs keys values h.mid h.serialised) (wrote_begins h.mid _ t h.padded)
    node_stops image size s xs fault t (in_own_bytes keys values h cause e u) = then_begins s h.mid t (entries_begin s xs keys values h.mid h.serialised) (wrote_begins h.mid _ t h.padded)
    node_stops image size s xs fault t (in_node root owns mid h stopped) = then_begins s mid t (entries_begin s xs h.keys h.values mid h.serialised) (stopped_begins mid (image (position mid) owns) fault t stopped)

    mutual
      tree_stops : (s : Writing) (tree : Tree (M × N)) (fault : Fault E) (t : Writing) → TreeStopped n K V s tree fault t → BeginsWith t s
      tree_stops s (leaf xs) fault t h = node_stops (leaf_image n) (leaf_size n) s xs fault t h
      tree_stops s (inner row) fault t (inl h) = row_stops s row fault t h
      tree_stops s (inner row) fault t (inr h) = then_begins s h.1 t (row_begins s row h.0 h.1 h.2) (node_stops (λ (at : ℕ) (owns : List OwnBytes). inner_image n at owns h.0) (inner_size n) h.1 (row_entries row) fault t h.3)

      row_stops : (s : Writing) (row : Row (M × N)) (fault : Fault E) (t : Writing) → RowStopped n K V s row fault t → BeginsWith t s
      row_stops s (last c) fault t h = stops_begin s c fault t h
      row_stops s (step c x row) fault t (inl h) = stops_begin s c fault t h
      row_stops s (step c x row) fault t (inr h) = then_begins s h.1 t (child_begins s c h.0 h.1 h.2) (row_stops h.1 row fault t h.3)

      pub stops_begin : (s : Writing) (c : Child (M × N)) (fault : Fault E) (t : Writing) → ChildStopped n K V s c fault t → BeginsWith t s
      stops_begin s absent fault t h = absurd h
      stops_begin s (child tree) fault t h = tree_stops s tree fault t h
