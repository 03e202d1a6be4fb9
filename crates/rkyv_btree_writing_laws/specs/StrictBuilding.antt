-- Serialising the items of an iterator, whose keys must increase.
use Rattle.std.specs.Prelude.{◌≡◌, ℕ, ◌+◌, ◌<◌, ◌⊎◌, List, length, map, take, Option}
use Rattle.std.specs.Iterator.{Yields}
use Rattle.std.specs.List.Sorted.{IsStrictlySortedBy}
use Rattle.std.specs.declared.cmp.Ordering.{Ordering}
use Rattle.rkyv_btree_portable.specs.Kind.{Kind}
use Rattle.rkyv_btree_portable.specs.Scalars.{unit_kind}
use Rattle.rkyv_btree_format.specs.Layout.{layout_of}
use Rattle.rkyv_btree_shape.specs.Plan.{planned_alone}
use Rattle.rkyv_btree_writer.specs.Archiving.{Archival}
use Rattle.rkyv_btree_writer.specs.Writing.{Writing, last_end}
use Rattle.rkyv_btree_writer.specs.declared.fault.Fault.{Fault}
use Rattle.rkyv_btree_writer.specs.declared.fault.Fault.TheVariants.{Length, LengthOverflow, PositionOverflow, OffsetOverflow, Writer, Memory, Entry, OutOfOrder}
use Rattle.rkyv_btree_writing_laws.specs.Begun.{ChildBegun}
use Rattle.rkyv_btree_format.specs.Increasing.{Increasing, IsOutOfOrder}
use Rattle.rkyv_btree_writing_laws.specs.Sets.{unit_archival, entry_borrowed, entries_by, BuildsSet}
use Rattle.rkyv_btree_writing_laws.specs.Serialising.{BeginClaimed, Serialised, StoppedBuilding, Miscounted}

module _ {I M N R S P : Type 0} (order : M → M → Ordering) (K V : Kind) (E : ℕ) (KA : Archival M R) (VA : Archival N S)
    (borrowed : I → M × N) (steps : P → Option I → P → Type 0) where
  -- the tree of the items was written, and their keys increase
  abbrev pub SerialisedInOrder : P → ℕ → Writing → ℕ → Writing → Type 0
  SerialisedInOrder iter claim from root t =
      (b : Serialised K V E KA VA borrowed steps iter claim from root t) × Increasing order (map borrowed b.items)

  -- the item at an index, which is claimed, is the first whose key isn't greater than the key before it; a beginning of the
  -- tree of a list of as many entries as claimed was written, of which the items before are the first
  pub record MetOutOfOrder (iter : P) (claim index : ℕ) (from t : Writing) : Type 0 where
    pub items : List I
    pub rest : P
    pub taken : Yields steps iter items rest
    pub claimed : index < claim
    pub last : length items ≡ index + 1
    pub out : IsOutOfOrder order (map borrowed items) index
    pub begun : (xs : List (M × N)) × BeginClaimed borrowed (take index items) claim xs
        × ChildBegun (layout_of K V E) KA VA from (planned_alone E xs) t

  -- building was stopped by a fault, and the keys of the items that the iterator gave increase
  abbrev pub StoppedInOrder : {X : Type 0} → P → ℕ → Writing → Fault X → Writing → Type 0
  StoppedInOrder {X} iter claim from fault t =
      (s : StoppedBuilding K V E KA VA borrowed steps {X = X} iter claim from fault t) × Increasing order (map borrowed s.items)

  -- each fault's cause, and what it leaves
  abbrev pub StrictFault : {X : Type 0} → P → ℕ → Writing → Fault X → Writing → Type 0
  StrictFault iter claim from (OutOfOrder index) t = MetOutOfOrder iter claim index from t
  StrictFault iter claim from (Length m) t =
      (w : Miscounted K V E KA VA borrowed steps iter claim m.expected m.actual from t) × Increasing order (take claim (map borrowed w.items))
  StrictFault {X} iter claim from LengthOverflow t = ((last_end < claim) × (t ≡ from)) ⊎ StoppedInOrder {X = X} iter claim from LengthOverflow t
  StrictFault {X} iter claim from PositionOverflow t = StoppedInOrder {X = X} iter claim from PositionOverflow t
  StrictFault {X} iter claim from OffsetOverflow t = StoppedInOrder {X = X} iter claim from OffsetOverflow t
  StrictFault iter claim from (Writer error) t = StoppedInOrder iter claim from (Writer error) t
  StrictFault {X} iter claim from (Memory error) t = (t ≡ from) ⊎ StoppedInOrder {X = X} iter claim from (Memory error) t
  StrictFault {X} iter claim from (Entry fault) t = StoppedInOrder {X = X} iter claim from (Entry fault) t

module _ {I M N R S P Q : Type 0} (order : M → M → Ordering) (K V : Kind) (E : ℕ) (KA : Archival M R) (VA : Archival N S)
    (borrowed : I → M × N) (steps : P → Option I → P → Type 0) (iter : P) (claim : ℕ) (state : Q → Writing) (before after : Q) where
  -- between two states of a writer the tree of the items was built, whose node is at the root, and their keys increase
  abbrev pub BuildsInOrder : ℕ → Type 0
  BuildsInOrder root = SerialisedInOrder order K V E KA VA borrowed steps iter claim (state before) root (state after)

  -- a fault stopped it
  abbrev pub FailsInOrder : {X : Type 0} → Fault X → Type 0
  FailsInOrder fault = StrictFault order K V E KA VA borrowed steps iter claim (state before) fault (state after)

module _ {I M R P Q : Type 0} (order : M → M → Ordering) (K : Kind) (E : ℕ) (KA : Archival M R) (borrowed : I → M) (steps : P → Option I → P → Type 0)
    (iter : P) (claim : ℕ) (state : Q → Writing) (before after : Q) where
  -- the tree of the keys, each with a (), was built, and they increase
  abbrev pub BuildsSetInOrder : ℕ → Type 0
  BuildsSetInOrder root =
      (b : BuildsSet K E KA borrowed steps iter claim state before after root) × IsStrictlySortedBy order (map borrowed b.keys)

  -- a fault stopped that of the map whose entries come by these keys
  abbrev pub FailsSetInOrder : {X : Type 0} → Fault X → Type 0
  FailsSetInOrder fault = FailsInOrder order K unit_kind E KA unit_archival (entry_borrowed borrowed) (entries_by steps) iter claim state before after fault
