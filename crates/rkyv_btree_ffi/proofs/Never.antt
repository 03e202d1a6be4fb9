-- A map of keys and values that never refuse themselves doesn't either.
use Rattle.std.proofs.Common.{ℕ, List, [], ◌∷◌, inl, inr}
use Rattle.rkyv_btree_writer.specs.Archiving.{Archival}
use Rattle.rkyv_btree_writer.specs.declared.fault.EntryFault.{EntryFault}
use Rattle.rkyv_btree_writing_laws.specs.Imaged.{EntriesRefuse, TreeUpTo, RowUpTo, ChildUpTo, ChildRefuses}
use Rattle.rkyv_btree_portable.specs.InPlace.{OwnBytes}
use Rattle.rkyv_btree_format.specs.Layout.{NodeLayout}
use Rattle.rkyv_btree_shape.specs.Tree.{Tree, leaf, inner, Row, last, step, Child, absent, child, row_entries}
use Rattle.rkyv_btree_writer.specs.Writing.{Write}

module _ {M N R S : Type 0} (s : NodeLayout) (K : Archival M R) (V : Archival N S) (fault : EntryFault)
    (no_key : (x : M) (from : ℕ) → K.Refuses x from fault → ⊥) (no_value : (x : N) (from : ℕ) → V.Refuses x from fault → ⊥) where
  abbrev Node : (ℕ → List OwnBytes → List Write) → ℕ → ℕ → List (M × N) → List Write → Type 0
  Node image size start xs begun = EntriesRefuse K V fault start xs begun

  no_entries : (xs : List (M × N)) (from : ℕ) (writes : List Write) → EntriesRefuse K V fault from xs writes → ⊥
  no_entries [] from writes h = h
  no_entries (x ∷ xs) from writes (inl h) = no_key x.0 from h.0
  no_entries (x ∷ xs) from writes (inr (inl h)) = no_value x.1 _ h.4.0
  no_entries (x ∷ xs) from writes (inr (inr h)) = no_entries xs _ h.1 h.5

  mutual
    no_tree : (t : Tree (M × N)) (from : ℕ) (writes : List Write) → TreeUpTo s K V Node from t writes → ⊥
    no_tree (leaf xs) from writes h = no_entries xs from writes h
    no_tree (inner row) from writes (inl h) = no_row row from writes h
    no_tree (inner row) from writes (inr h) = no_entries (row_entries row) _ h.1 h.4

    no_row : (row : Row (M × N)) (from : ℕ) (writes : List Write) → RowUpTo s K V Node from row writes → ⊥
    no_row (last c) from writes h = no_child c from writes h
    no_row (step c x row) from writes (inl h) = no_child c from writes h
    no_row (step c x row) from writes (inr h) = no_row row _ h.1 h.4

    no_child : (c : Child (M × N)) (from : ℕ) (writes : List Write) → ChildUpTo s K V Node from c writes → ⊥
    no_child absent from writes h = h
    no_child (child t) from writes h = no_tree t from writes h

  pub never_refused : (from : ℕ) (c : Child (M × N)) → ChildRefuses s K V from c fault → ⊥
  never_refused from c h = no_child c from h.0 h.1
