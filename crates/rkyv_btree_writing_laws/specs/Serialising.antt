-- Serialising the items of an iterator, and the map itself.
use Rattle.std.specs.Prelude.{◌≡◌, ◌≢◌, ℕ, ◌<◌, ◌≤◌, ◌⊎◌, List, [], length, map, take, ◌++◌, Option, unwrap_or}
use Rattle.std.specs.Iterator.{Yields, Drains}
use Rattle.rkyv_btree_portable.specs.Bytes.{Holds}
use Rattle.rkyv_btree_writer.specs.Archiving.{Archival, Matches}
use Rattle.rkyv_btree_writing_laws.specs.Begun.{ChildBegun}
use Rattle.rkyv_btree_writing_laws.specs.Image.{root_image}
use Rattle.rkyv_btree_portable.specs.Kind.{Kind}
use Rattle.rkyv_btree_format.specs.Layout.{NodeLayout, layout_of}
use Rattle.rkyv_btree_shape.specs.Plan.{plan, planned_alone}
use Rattle.rkyv_btree_format.specs.Spells.{Spells}
use Rattle.rkyv_btree_shape.specs.Tree.{Tree, list, height}
use Rattle.rkyv_btree_writing_laws.specs.Written.{ChildWritten, ChildStopped}
use Rattle.rkyv_btree_writer.specs.Writing.{Writing, position, Stopped, last_end}
use Rattle.rkyv_btree_writer.specs.declared.fault.Fault.{Fault}
use Rattle.rkyv_btree_writer.specs.declared.fault.Fault.TheVariants.{Length, LengthOverflow, PositionOverflow, OffsetOverflow, Writer, Memory, Entry, OutOfOrder}

-- what an item means
abbrev pub meaning_of : {I M N R S : Type 0} (K V : Kind) (KA : Archival M R) (VA : Archival N S) → (I → M × N) → Matches KA.kind K
    → Matches VA.kind V → I → K.Value × V.Value
meaning_of K V KA VA borrowed key value x = (key.to (KA.meaning (borrowed x).0), value.to (VA.meaning (borrowed x).1))

-- between two states the tree of these entries was written, whose node is at the root, or at position 0 if there is none
pub record Built {M N R S : Type 0} (s : NodeLayout) (KA : Archival M R) (VA : Archival N S) (from : Writing)
    (xs : List (M × N)) (root : ℕ) (t : Writing) : Type 0 where
  pub place : Option ℕ
  pub written : ChildWritten s KA VA from (planned_alone s.E xs) place t
  pub root_is : root ≡ unwrap_or place 0
  pub ends : 0 < length xs → position t ≤ last_end

-- every buffer that holds what was appended between two states spells the tree of this list, whose node is at the root
pub record Spelled (K V : Kind) (E : ℕ) (from : Writing) (m : List (K.Value × V.Value)) (root : ℕ) (t : Writing) : Type 0 where
  pub tree : Tree (K.Value × V.Value)
  pub entries : list tree ≡ m
  pub planned : tree ≡ plan E m
  pub levels : height tree ≤ 32
  pub appended : List ℕ
  pub contents : t.contents ≡ from.contents ++ appended
  pub spelled : (b : List ℕ) → length b ≤ 4294967295 → Holds b (position from) appended → position t ≤ length b
      → Spells K V E b (position from) (position t) root tree

-- items are the first of a list of as many entries as claimed
pub record BeginClaimed {I M N : Type 0} (borrowed : I → M × N) (items : List I) (claim : ℕ) (xs : List (M × N)) : Type 0 where
  pub later : List (M × N)
  pub parts : xs ≡ map borrowed items ++ later
  pub count : length xs ≡ claim

module _ {I M N R S P : Type 0} (K V : Kind) (E : ℕ) (KA : Archival M R) (VA : Archival N S) (borrowed : I → M × N) (steps : P → Option I → P → Type 0) where
  -- the iterator gave as many items as claimed, and then no more; the tree of them was written
  pub record Serialised (iter : P) (claim : ℕ) (from : Writing) (root : ℕ) (t : Writing) : Type 0 where
    pub items : List I
    pub all : Drains steps iter items
    pub count : length items ≡ claim
    pub built : Built (layout_of K V E) KA VA from (map borrowed items) root t
    pub spelled : 0 < claim → (key : Matches KA.kind K) (value : Matches VA.kind V) → Spelled K V E from (map (meaning_of K V KA VA borrowed key value) items) root t

  -- the items that the iterator gave are the first of a list of as many entries as claimed, and the writing of the tree of
  -- each such list is stopped there
  pub record StoppedBuilding {X : Type 0} (iter : P) (claim : ℕ) (from : Writing) (fault : Fault X) (t : Writing) : Type 0 where
    pub items : List I
    pub rest : P
    pub taken : Yields steps iter items rest
    pub entries : List (M × N)
    pub claimed : BeginClaimed borrowed items claim entries
    -- whatever the entries are that would come later, the iterator's own too
    pub stopped : (xs : List (M × N)) → BeginClaimed borrowed items claim xs → ChildStopped (layout_of K V E) KA VA from (planned_alone E xs) fault t

  -- the iterator gave another number of items than the claim
  pub record Miscounted (iter : P) (claim expected actual : ℕ) (from t : Writing) : Type 0 where
    pub items : List I
    pub all : Drains steps iter items
    pub differs : length items ≢ claim
    pub claimed : expected ≡ claim
    pub counted : actual ≡ length items
    -- of none nothing is written; of too few a beginning of the tree of a list of as many entries as claimed, of which
    -- they are the first; of too many the tree of as many as claimed
    pub none : items ≡ [] → t ≡ from
    pub few : 0 < length items → length items < claim → (xs : List (M × N)) × BeginClaimed borrowed items claim xs
        × ChildBegun (layout_of K V E) KA VA from (planned_alone E xs) t
    pub many : claim < length items → (place : Option ℕ) × ChildWritten (layout_of K V E) KA VA from (planned_alone E (map borrowed (take claim items))) place t

  -- each fault's cause, and what it leaves
  abbrev pub BuildFault : {X : Type 0} → P → ℕ → Writing → Fault X → Writing → Type 0
  BuildFault iter claim from (Length m) t = Miscounted iter claim m.expected m.actual from t
  BuildFault {X} iter claim from LengthOverflow t = ((last_end < claim) × (t ≡ from)) ⊎ StoppedBuilding {X = X} iter claim from LengthOverflow t
  BuildFault {X} iter claim from PositionOverflow t = StoppedBuilding {X = X} iter claim from PositionOverflow t
  BuildFault {X} iter claim from OffsetOverflow t = StoppedBuilding {X = X} iter claim from OffsetOverflow t
  BuildFault iter claim from (Writer error) t = StoppedBuilding iter claim from (Writer error) t
  BuildFault {X} iter claim from (Memory error) t = (t ≡ from) ⊎ StoppedBuilding {X = X} iter claim from (Memory error) t
  BuildFault {X} iter claim from (Entry fault) t = StoppedBuilding {X = X} iter claim from (Entry fault) t
  BuildFault iter claim from (OutOfOrder index) t = ⊥

module _ {I M N R S P Q : Type 0} (K V : Kind) (E : ℕ) (KA : Archival M R) (VA : Archival N S)
    (borrowed : I → M × N) (steps : P → Option I → P → Type 0) (iter : P) (claim : ℕ) (state : Q → Writing) (before after : Q) where
  -- between two states of a writer the tree was built, whose node is at the root
  abbrev pub BuildsTree : ℕ → Type 0
  BuildsTree root = Serialised K V E KA VA borrowed steps iter claim (state before) root (state after)

  -- a fault stopped it
  abbrev pub FailsToBuild : {X : Type 0} → Fault X → Type 0
  FailsToBuild fault = BuildFault K V E KA VA borrowed steps iter claim (state before) fault (state after)

-- each fault's cause in writing a map, and what it leaves
abbrev pub RootFault : {X : Type 0} → ℕ → ℕ → Writing → Fault X → Writing → Type 0
RootFault root len from (Length m) t = ⊥
RootFault root len from LengthOverflow t = (last_end < len) × (t ≡ from)
RootFault {X} root len from PositionOverflow t = Stopped {E = X} from (root_image (position from) root len) PositionOverflow t
RootFault {X} root len from OffsetOverflow t = Stopped {E = X} from (root_image (position from) root len) OffsetOverflow t
RootFault root len from (Writer error) t = Stopped from (root_image (position from) root len) (Writer error) t
RootFault root len from (Memory error) t = ⊥
RootFault root len from (Entry fault) t = ⊥
RootFault root len from (OutOfOrder index) t = ⊥
