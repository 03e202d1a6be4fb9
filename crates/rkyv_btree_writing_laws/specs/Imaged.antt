-- What a tree writes from a position on, whatever writer takes it: what the entries of each node write, and then the node.
-- And how far that comes where a write is refused, or an entry refuses itself.
use Rattle.std.specs.Prelude.{◌≡◌, ℕ, ◌+◌, ◌⊎◌, false, List, [], ◌∷◌, ◌++◌, length, Option, Some, None}
use Rattle.rkyv_btree_format.specs.Layout.{NodeLayout, align, leaf_size, inner_size}
use Rattle.rkyv_btree_portable.specs.Bytes.{zeros}
use Rattle.rkyv_btree_portable.specs.InPlace.{OwnBytes}
use Rattle.rkyv_btree_portable.specs.Rounding.{round_up}
use Rattle.rkyv_btree_shape.specs.Tree.{Tree, leaf, inner, Row, last, step, Child, absent, child, row_entries}
use Rattle.rkyv_btree_writer.specs.Archiving.{Archival}
use Rattle.rkyv_btree_writer.specs.Padding.{zeros_write, padding}
use Rattle.rkyv_btree_writer.specs.Writing.{Write, appended}
use Rattle.rkyv_btree_writer.specs.declared.fault.EntryFault.{EntryFault}
use Rattle.rkyv_btree_writer.specs.declared.fault.ResolveFault.{ResolveFault}
use Rattle.rkyv_btree_writer.specs.declared.fault.ResolveFault.TheVariants as resolving
use Rattle.rkyv_btree_writing_laws.specs.Entries.{EntriesResolved, EntriesUnresolved}
use Rattle.rkyv_btree_writing_laws.specs.Image.{leaf_image, inner_image}

-- where writes end that begin at a position
abbrev pub end_of : ℕ → List Write → ℕ
end_of from writes = from + length (appended writes)

-- what stands for a node of so many bytes whose entries can't be resolved: it is never put down, and has a pointer out of
-- reach only where an entry has
abbrev pub unresolved_write : ResolveFault → ℕ → Write
unresolved_write resolving.LengthOverflow size = zeros_write size
unresolved_write resolving.OffsetOverflow size = record { bytes = zeros size; reaches = false }

module _ {M N R S : Type 0} (K : Archival M R) (V : Archival N S) where
  -- what is known of an entry that was serialised
  abbrev pub EntryIn : M × N → Type 0
  EntryIn x = K.IsIn x.0 × V.IsIn x.1

  -- an entry's writes from a position on, the key's first, with what serialising tells of both
  pub record EntryImage (from : ℕ) (x : M × N) (writes : List Write) (r : R) (q : S) : Type 0 where
    pub first : List Write
    pub second : List Write
    pub key : K.Writes x.0 from first r
    pub value : V.Writes x.1 (end_of from first) second q
    pub both : writes ≡ first ++ second

  -- the writes of entries, one after another
  abbrev pub EntriesImage : ℕ → List (M × N) → List Write → List R → List S → Type 0
  EntriesImage from [] writes keys values = (writes ≡ []) × (keys ≡ []) × (values ≡ [])
  EntriesImage from (x ∷ xs) writes keys values =
      (own : List Write) × (rest : List Write) × (r : R) × (q : S) × (others : List R) × (others2 : List S)
      × EntryImage from x own r q × EntriesImage (end_of from own) xs rest others others2 × (writes ≡ own ++ rest)
      × (keys ≡ r ∷ others) × (values ≡ q ∷ others2)

  -- the first entries are written, and then comes what is told of a key, or its writes and what is told of its value
  module _ (Key : M → ℕ → List Write → Type 0) (Value : N → ℕ → List Write → Type 0) where
    abbrev pub EntriesUpTo : ℕ → List (M × N) → List Write → Type 0
    EntriesUpTo from [] writes = ⊥
    EntriesUpTo from (x ∷ xs) writes =
        Key x.0 from writes
        ⊎ (((first : List Write) × (second : List Write) × (r : R) × K.Writes x.0 from first r
        × Value x.1 (end_of from first) second × (writes ≡ first ++ second))
        ⊎ ((own : List Write) × (rest : List Write) × (r : R) × (q : S) × EntryImage from x own r q
        × EntriesUpTo (end_of from own) xs rest × (writes ≡ own ++ rest)))

  -- what entries begin to write
  abbrev pub EntriesBegin : ℕ → List (M × N) → List Write → Type 0
  EntriesBegin = EntriesUpTo K.Begins V.Begins

  -- a key or value refuses itself after these writes
  abbrev pub EntriesRefuse : EntryFault → ℕ → List (M × N) → List Write → Type 0
  EntriesRefuse fault = EntriesUpTo (λ x from writes. K.Refuses x from fault × (writes ≡ [])) (λ x from writes. V.Refuses x from fault × (writes ≡ []))

module _ {M N R S : Type 0} (s : NodeLayout) (K : Archival M R) (V : Archival N S) where
  -- the writes of a node's entries, and after them its image, whose place is the root
  pub record NodeImage (image : ℕ → List OwnBytes → List Write) (from : ℕ) (xs : List (M × N)) (writes : List Write) (root : ℕ) : Type 0 where
    pub keys : List R
    pub values : List S
    pub before : List Write
    pub owns : List OwnBytes
    pub entries : EntriesImage K V from xs before keys values
    pub place : root ≡ round_up (end_of from before) (align s)
    pub resolved : EntriesResolved s K V root xs keys values owns
    pub both : writes ≡ before ++ image (end_of from before) owns

  -- the writes of a tree, whose root node is at the root: children before parents, from the left
  abbrev mutual
    pub TreeImage : ℕ → Tree (M × N) → List Write → ℕ → Type 0
    TreeImage from (leaf xs) writes root = NodeImage (leaf_image s) from xs writes root
    TreeImage from (inner row) writes root =
        (before : List Write) × (node : List Write) × (roots : List (Option ℕ)) × RowImage from row before roots
        × NodeImage (λ at owns. inner_image s at owns roots) (end_of from before) (row_entries row) node root
        × (writes ≡ before ++ node)

    pub RowImage : ℕ → Row (M × N) → List Write → List (Option ℕ) → Type 0
    RowImage from (last c) writes roots = (root : Option ℕ) × ChildImage from c writes root × (roots ≡ root ∷ [])
    RowImage from (step c x row) writes roots =
        (first : List Write) × (rest : List Write) × (root : Option ℕ) × (others : List (Option ℕ))
        × ChildImage from c first root × RowImage (end_of from first) row rest others × (writes ≡ first ++ rest)
        × (roots ≡ root ∷ others)

    pub ChildImage : ℕ → Child (M × N) → List Write → Option ℕ → Type 0
    ChildImage from absent writes root = (writes ≡ []) × (root ≡ None)
    ChildImage from (child t) writes root = (place : ℕ) × TreeImage from t writes place × (root ≡ Some place)

  -- its first nodes are written, and then comes what is told of the next node, of which are given the image, the size and
  -- the entries
  module _ (Node : (ℕ → List OwnBytes → List Write) → ℕ → ℕ → List (M × N) → List Write → Type 0) where
    abbrev mutual
      pub TreeUpTo : ℕ → Tree (M × N) → List Write → Type 0
      TreeUpTo from (leaf xs) writes = Node (leaf_image s) (leaf_size s) from xs writes
      TreeUpTo from (inner row) writes =
          RowUpTo from row writes
          ⊎ ((before : List Write) × (node : List Write) × (roots : List (Option ℕ)) × RowImage from row before roots
          × Node (λ at owns. inner_image s at owns roots) (inner_size s) (end_of from before) (row_entries row) node
          × (writes ≡ before ++ node))

      pub RowUpTo : ℕ → Row (M × N) → List Write → Type 0
      RowUpTo from (last c) writes = ChildUpTo from c writes
      RowUpTo from (step c x row) writes =
          ChildUpTo from c writes
          ⊎ ((first : List Write) × (rest : List Write) × (root : Option ℕ) × ChildImage from c first root
          × RowUpTo (end_of from first) row rest × (writes ≡ first ++ rest))

      pub ChildUpTo : ℕ → Child (M × N) → List Write → Type 0
      ChildUpTo from absent writes = ⊥
      ChildUpTo from (child t) writes = TreeUpTo from t writes

  -- what a node of a size begins to write: what its entries do; or all writes of the node; or, where an entry's own bytes
  -- aren't resolved at the node's place, those of its entries, the padding, and what stands for the node
  pub data NodeBegins (image : ℕ → List OwnBytes → List Write) (size : ℕ) (from : ℕ) (xs : List (M × N)) (writes : List Write) : Type 0 where
    of_entries : EntriesBegin K V from xs writes → NodeBegins image size from xs writes
    of_node : (root : ℕ) → NodeImage image from xs writes root → NodeBegins image size from xs writes
    of_unresolved : (keys : List R) (values : List S) (before : List Write) (cause : ResolveFault)
        → EntriesImage K V from xs before keys values
        → EntriesUnresolved s K V (round_up (end_of from before) (align s)) xs keys values cause →
        writes ≡ before ++ (padding (align s) (end_of from before) ++ unresolved_write cause size ∷ []) → NodeBegins image size from xs writes

  -- what a child begins to write
  abbrev pub ChildBegins : ℕ → Child (M × N) → List Write → Type 0
  ChildBegins = ChildUpTo NodeBegins

  -- an entry of a child refuses itself, after all that is written before it
  abbrev pub ChildRefuses : ℕ → Child (M × N) → EntryFault → Type 0
  ChildRefuses from c fault = (writes : List Write) × ChildUpTo (λ image size start xs begun. EntriesRefuse K V fault start xs begun) from c writes
