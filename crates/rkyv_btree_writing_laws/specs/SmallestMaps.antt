-- Which maps are the smallest, among all that are accepted anywhere and have as many entries; and that what was written of
-- entries is one of these.
use Rattle.std.specs.Prelude.{◌≡◌, ℕ, ◌+◌, ◌-◌, ◌<◌, ◌≤◌, List, length, map, Option}
use Rattle.std.specs.Int.{div_ceil}
use Rattle.std.specs.Iterator.{Drains}
use Rattle.std.proofs.Common.{inl, inr}
use Rattle.rkyv_btree_portable.specs.Kind.{Kind}
use Rattle.rkyv_btree_portable.specs.Scalars.{unit_kind}
use Rattle.rkyv_btree_shape.specs.Tree.{Tree, height}
use Rattle.rkyv_btree_shape.specs.Weight.{inners, weight}
use Rattle.rkyv_btree_shape.specs.Logarithm.{ilog}
use Rattle.rkyv_btree_format.specs.Layout.{layout_of, leaf_size, inner_size}
use Rattle.rkyv_btree_format.specs.Spells.{Accepted, accepted_nodes}
use Rattle.rkyv_btree_writer.specs.Archiving.{Archival, Matches}
use Rattle.rkyv_btree_writer.specs.Writing.{Writing}
use Rattle.rkyv_btree_writing_laws.specs.Archives.{HoldsArchive}
use Rattle.rkyv_btree_writing_laws.specs.Serialising.{BuildsTree}
use Rattle.rkyv_btree_writing_laws.specs.Sets.{unit_archival, unit_entries, BuildsSet}

-- a map that is accepted: in any buffer, window and position, whoever wrote it
pub record AcceptedMap (K V : Kind) (E : ℕ) : Type 0 where
  pub buffer : List ℕ
  pub lo : ℕ
  pub hi : ℕ
  pub at : ℕ
  pub left : ℕ
  pub entries : List (K.Value × V.Value)
  pub accepted : Accepted K V E buffer lo hi at left entries

module _ {K V : Kind} {E : ℕ} where
  -- what a function gives of its tree, and 0 where it has none: a map of no entries hasn't
  abbrev pub of_tree : (Tree (K.Value × V.Value) → ℕ) → AcceptedMap K V E → ℕ
  of_tree f a = elim a.accepted.root [ inl none ↦ 0 | inr root ↦ f root.1.tree ]

  abbrev pub nodes_of : AcceptedMap K V E → ℕ
  nodes_of a = accepted_nodes K V E a.buffer a.lo a.hi a.at a.left a.entries a.accepted

  abbrev pub inners_of : AcceptedMap K V E → ℕ
  inners_of a = of_tree inners a

  abbrev pub levels_of : AcceptedMap K V E → ℕ
  levels_of a = of_tree height a

  -- the bytes of its nodes, by the sizes of this layout
  abbrev pub node_bytes_of : AcceptedMap K V E → ℕ
  node_bytes_of a = of_tree (weight (leaf_size (layout_of K V E)) (inner_size (layout_of K V E))) a

  pub record IsNoLarger (a c : AcceptedMap K V E) : Type 0 where
    pub nodes : nodes_of a ≤ nodes_of c
    pub inners : inners_of a ≤ inners_of c
    pub levels : levels_of a ≤ levels_of c
    pub node_bytes : node_bytes_of a ≤ node_bytes_of c

  -- A map has exactly so many nodes, inner nodes and levels, and no accepted map with as many entries has fewer of these or
  -- of node bytes: those with short and empty leaves, absent children and lopsided trees included.
  pub record IsSmallestMap (a : AcceptedMap K V E) : Type 0 where
    pub nodes_are : nodes_of a ≡ div_ceil (length a.entries) E
    pub inners_are : inners_of a ≡ div_ceil (nodes_of a - 1) (E + 1)
    pub levels_are : 0 < length a.entries → levels_of a ≡ 1 + ilog (E + 1) (length a.entries)
    pub levels_fit : levels_of a ≤ 32
    pub least : (c : AcceptedMap K V E) → length c.entries ≡ length a.entries → IsNoLarger a c

-- a map at a position, in a window of the bytes before it
abbrev pub map_at : {K V : Kind} {E : ℕ} {b : List ℕ} {lo hi at left : ℕ} {m : List (K.Value × V.Value)} → Accepted K V E b lo hi at left m → AcceptedMap K V E
map_at {b = b} {lo = lo} {hi = hi} {at = at} {left = left} {m = m} a = record { buffer = b; lo = lo; hi = hi; at = at; left = left; entries = m; accepted = a }

module _ {M N R S : Type 0} (K V : Kind) (E : ℕ) (KA : Archival M R) (VA : Archival N S) where
  -- what an entry means
  abbrev pub entry_value : Matches KA.kind K → Matches VA.kind V → M × N → K.Value × V.Value
  entry_value key value x = (key.to (KA.meaning x.0), value.to (VA.meaning x.1))

  -- every buffer that holds what was written between two states, and after it the map over the root node, is accepted there
  -- as the map of what the entries mean
  abbrev pub IsArchive : Writing → List (M × N) → ℕ → Writing → Type 0
  IsArchive from entries root to =
      (key : Matches KA.kind K) (value : Matches VA.kind V) (b : List ℕ) (at : ℕ) → HoldsArchive b from to root at (length entries) →
      (left : ℕ) × Accepted K V E b 0 at at left (map (entry_value key value) entries)

  -- and this is a smallest one
  abbrev pub IsSmallestArchive : Writing → List (M × N) → ℕ → Writing → Type 0
  IsSmallestArchive from entries root to =
      (key : Matches KA.kind K) (value : Matches VA.kind V) (b : List ℕ) (at : ℕ) → HoldsArchive b from to root at (length entries) →
      (left : ℕ) × (a : Accepted K V E b 0 at at left (map (entry_value key value) entries)) × IsSmallestMap (map_at a)

module _ {I M N R S P Q : Type 0} (K V : Kind) (E : ℕ) (KA : Archival M R) (VA : Archival N S)
    (borrowed : I → M × N) (steps : P → Option I → P → Type 0) (iter : P) (claim : ℕ) (state : Q → Writing) (before after : Q) where
  -- the iterator gave as many items as declared and then no more, and what was written is an archive of them
  pub record ArchivesItems (root : ℕ) : Type 0 where
    pub items : List I
    pub all : Drains steps iter items
    pub count : length items ≡ claim
    pub archive : IsArchive K V E KA VA (state before) (map borrowed items) root (state after)

  -- the tree of an iterator's items was built, and their archive is a smallest one
  abbrev pub BuildsSmallest : ℕ → Type 0
  BuildsSmallest root =
      (built : BuildsTree K V E KA VA borrowed steps iter claim state before after root)
      × IsSmallestArchive K V E KA VA (state before) (map borrowed built.items) root (state after)

module _ {I M R P Q : Type 0} (K : Kind) (E : ℕ) (KA : Archival M R) (borrowed : I → M) (steps : P → Option I → P → Type 0) (iter : P)
    (claim : ℕ) (state : Q → Writing) (before after : Q) where
  -- the iterator gave as many keys as declared and then no more, and what was written is an archive of them
  pub record ArchivesKeys (root : ℕ) : Type 0 where
    pub keys : List I
    pub all : Drains steps iter keys
    pub count : length keys ≡ claim
    pub archive : IsArchive K unit_kind E KA unit_archival (state before) (unit_entries borrowed keys) root (state after)

  -- and so of an iterator's items as the keys of a set
  abbrev pub BuildsSmallestSet : ℕ → Type 0
  BuildsSmallestSet root =
      (built : BuildsSet K E KA borrowed steps iter claim state before after root)
      × IsSmallestArchive K unit_kind E KA unit_archival (state before) (unit_entries borrowed built.keys) root (state after)
