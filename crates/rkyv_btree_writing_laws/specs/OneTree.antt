-- The one left-complete tree of a list, and that building appends its image.
use Rattle.std.specs.Prelude.{◌≡◌, ℕ, ◌<◌, List, map, Option}
use Rattle.rkyv_btree_portable.specs.Kind.{Kind}
use Rattle.rkyv_btree_portable.specs.Scalars.{unit_kind}
use Rattle.rkyv_btree_format.specs.Layout.{NodeLayout, layout_of}
use Rattle.rkyv_btree_shape.specs.Tree.{Tree, list}
use Rattle.rkyv_btree_shape.specs.LeftComplete.{LeftComplete}
use Rattle.rkyv_btree_writer.specs.Archiving.{Archival}
use Rattle.rkyv_btree_writer.specs.Writing.{Writing, Write, position, Wrote}
use Rattle.rkyv_btree_writing_laws.specs.Imaged.{TreeImage}
use Rattle.rkyv_btree_writing_laws.specs.Serialising.{BuildsTree}
use Rattle.rkyv_btree_writing_laws.specs.Sets.{unit_archival, unit_entries, BuildsSet}

-- a tree is left complete and has these entries, and no other left-complete tree has them
pub record IsOneTree {X : Type 0} (E : ℕ) (entries : List X) (tree : Tree X) : Type 0 where
  pub complete : LeftComplete E tree
  pub holds : list tree ≡ entries
  pub only : (other : Tree X) → LeftComplete E other → list other ≡ entries → other ≡ tree

-- what leads from one state of a writer to another is the image of that tree, whose root node is at the root
pub record OneTreeWritten {M N R S : Type 0} (s : NodeLayout) (K : Archival M R) (V : Archival N S)
    (from : Writing) (entries : List (M × N)) (root : ℕ) (to : Writing) : Type 0 where
  pub tree : Tree (M × N)
  pub one : IsOneTree s.E entries tree
  pub image : List Write
  pub is_image : TreeImage s K V (position from) tree image root
  pub wrote : Wrote from image to

module _ {I M N R S P Q : Type 0} (K V : Kind) (E : ℕ) (KA : Archival M R) (VA : Archival N S)
    (borrowed : I → M × N) (steps : P → Option I → P → Type 0) (iter : P) (claim : ℕ) (state : Q → Writing) (before after : Q) where
  -- the tree of an iterator's items was built: the one left-complete tree
  abbrev pub BuildsOneTree : ℕ → Type 0
  BuildsOneTree root =
      (built : BuildsTree K V E KA VA borrowed steps iter claim state before after root)
      × (0 < claim → OneTreeWritten (layout_of K V E) KA VA (state before) (map borrowed built.items) root (state after))

module _ {I M R P Q : Type 0} (K : Kind) (E : ℕ) (KA : Archival M R) (borrowed : I → M) (steps : P → Option I → P → Type 0)
    (iter : P) (claim : ℕ) (state : Q → Writing) (before after : Q) where
  -- and so of an iterator's items as the keys of a set
  abbrev pub BuildsOneTreeSet : ℕ → Type 0
  BuildsOneTreeSet root =
      (built : BuildsSet K E KA borrowed steps iter claim state before after root)
      × (0 < claim → OneTreeWritten (layout_of K unit_kind E) KA unit_archival (state before) (unit_entries borrowed built.keys) root (state after))
