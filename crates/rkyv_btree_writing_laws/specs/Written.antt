-- How nodes and trees are written: from one state of a writer to another, or up to the write that is refused.
use Rattle.std.specs.Prelude.{◌≡◌, ℕ, ◌+◌, ◌<◌, ◌⊎◌, List, [], ◌∷◌, Option, Some, None}
use Rattle.rkyv_btree_writer.specs.Archiving.{Archival}
use Rattle.rkyv_btree_writer.specs.Padding.{padding}
use Rattle.rkyv_btree_writing_laws.specs.Image.{leaf_image, inner_image}
use Rattle.rkyv_btree_portable.specs.InPlace.{OwnBytes}
use Rattle.rkyv_btree_format.specs.Layout.{NodeLayout, align, leaf_size, inner_size}
use Rattle.rkyv_btree_portable.specs.Rounding.{round_up}
use Rattle.rkyv_btree_shape.specs.Tree.{Tree, leaf, inner, Row, last, step, Child, absent, child, row_entries}
use Rattle.rkyv_btree_writer.specs.Writing.{Writing, position, Write, Wrote, Stopped, last_end}
use Rattle.rkyv_btree_writer.specs.declared.fault.Fault.{Fault}
use Rattle.rkyv_btree_writer.specs.declared.fault.Fault.TheVariants.{PositionOverflow}
use Rattle.rkyv_btree_writer.specs.declared.fault.ResolveFault.{ResolveFault}
use Rattle.rkyv_btree_writing_laws.specs.Entries.{as_fault, AreSerialised, AreUnserialised, EntriesResolved, EntriesUnresolved}

module _ {M N R S : Type 0} (s : NodeLayout) (K : Archival M R) (V : Archival N S) where
  -- entries were serialised, and resolved in the node after them, whose place is this
  pub record AreInNode (from : Writing) (xs : List (M × N)) (root : ℕ) (owns : List OwnBytes) (to : Writing) : Type 0 where
    pub keys : List R
    pub values : List S
    pub serialised : AreSerialised K V from xs keys values to
    pub place : root ≡ round_up (position to) (align s)
    pub resolved : EntriesResolved s K V root xs keys values owns

  -- a node was written: what its entries write, and then padding and the node
  pub record NodeWritten (image : ℕ → List OwnBytes → List Write) (size : ℕ) (from : Writing) (xs : List (M × N)) (root : ℕ) (to : Writing) : Type 0 where
    pub owns : List OwnBytes
    pub mid : Writing
    pub entries : AreInNode from xs root owns mid
    pub wrote : Wrote mid (image (position mid) owns) to
    pub end : position to ≡ root + size

  -- the entries were serialised, and the padding before their node was written
  pub record IsPadded (from : Writing) (xs : List (M × N)) (keys : List R) (values : List S) (to : Writing) : Type 0 where
    pub mid : Writing
    pub serialised : AreSerialised K V from xs keys values mid
    pub padded : Wrote mid (padding (align s) (position mid)) to
    pub place : position to ≡ round_up (position mid) (align s)

  -- why a node isn't written, and the state that is left
  pub data NodeStopped {E : Type 0} (image : ℕ → List OwnBytes → List Write) (size : ℕ) (from : Writing) (xs : List (M × N))
      (fault : Fault E) (to : Writing) : Type 0 where
    in_entries : AreUnserialised K V from xs fault to → NodeStopped image size from xs fault to
    in_padding : (keys : List R) (values : List S) (mid : Writing) → AreSerialised K V from xs keys values mid
        → Stopped mid (padding (align s) (position mid)) fault to → NodeStopped image size from xs fault to
    past_end : (keys : List R) (values : List S) → IsPadded from xs keys values to → fault ≡ PositionOverflow
        → last_end < position to + size → NodeStopped image size from xs fault to
    in_own_bytes : (keys : List R) (values : List S) → IsPadded from xs keys values to → (cause : ResolveFault)
        → fault ≡ as_fault cause → EntriesUnresolved s K V (position to) xs keys values cause
        → NodeStopped image size from xs fault to
    in_node : (root : ℕ) (owns : List OwnBytes) (mid : Writing) → AreInNode from xs root owns mid
        → Stopped mid (image (position mid) owns) fault to → NodeStopped image size from xs fault to

  -- a tree was written, whose root node is at the root: children before parents, from the left
  abbrev mutual
    pub TreeWritten : Writing → Tree (M × N) → ℕ → Writing → Type 0
    TreeWritten from (leaf xs) root to = NodeWritten (leaf_image s) (leaf_size s) from xs root to
    TreeWritten from (inner row) root to =
        (roots : List (Option ℕ)) × (mid : Writing) × RowWritten from row roots mid
        × NodeWritten (λ at owns. inner_image s at owns roots) (inner_size s) mid (row_entries row) root to

    pub RowWritten : Writing → Row (M × N) → List (Option ℕ) → Writing → Type 0
    RowWritten from (last c) roots to = (root : Option ℕ) × ChildWritten from c root to × (roots ≡ root ∷ [])
    RowWritten from (step c x row) roots to =
        (root : Option ℕ) × (others : List (Option ℕ)) × (mid : Writing) × ChildWritten from c root mid
        × RowWritten mid row others to × (roots ≡ root ∷ others)

    pub ChildWritten : Writing → Child (M × N) → Option ℕ → Writing → Type 0
    ChildWritten from absent root to = (root ≡ None) × (to ≡ from)
    ChildWritten from (child t) root to = (place : ℕ) × TreeWritten from t place to × (root ≡ Some place)

  -- why it isn't, and the state that is left
  abbrev mutual
    pub TreeStopped : {E : Type 0} → Writing → Tree (M × N) → Fault E → Writing → Type 0
    TreeStopped from (leaf xs) fault to = NodeStopped (leaf_image s) (leaf_size s) from xs fault to
    TreeStopped from (inner row) fault to =
        RowStopped from row fault to
        ⊎ ((roots : List (Option ℕ)) × (mid : Writing) × RowWritten from row roots mid
        × NodeStopped (λ at owns. inner_image s at owns roots) (inner_size s) mid (row_entries row) fault to)

    pub RowStopped : {E : Type 0} → Writing → Row (M × N) → Fault E → Writing → Type 0
    RowStopped from (last c) fault to = ChildStopped from c fault to
    RowStopped from (step c x row) fault to =
        ChildStopped from c fault to
        ⊎ ((root : Option ℕ) × (mid : Writing) × ChildWritten from c root mid × RowStopped mid row fault to)

    pub ChildStopped : {E : Type 0} → Writing → Child (M × N) → Fault E → Writing → Type 0
    ChildStopped from absent fault to = ⊥
    ChildStopped from (child t) fault to = TreeStopped from t fault to
