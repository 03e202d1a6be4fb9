-- What is built of an iterator whose calls are those of another one in it is built of that one.
use Rattle.std.proofs.Common.{ℕ, List, [], ◌∷◌, Option, inl, inr, ap}
use Rattle.std.specs.Iterator.{Yields, Drains}
use Rattle.std.specs.declared.cmp.Ordering.{Ordering}
use Rattle.rkyv_btree_portable.specs.Kind.{Kind}
use Rattle.rkyv_btree_writer.specs.Archiving.{Archival}
use Rattle.rkyv_btree_writer.specs.Writing.{Writing}
use Rattle.rkyv_btree_writer.specs.declared.fault.Fault.{Fault}
use Rattle.rkyv_btree_writer.specs.declared.fault.Fault.TheVariants.{Length, LengthOverflow, PositionOverflow, OffsetOverflow, Writer, Memory, Entry, OutOfOrder}
use Rattle.rkyv_btree_writing_laws.specs.StrictBuilding.{StoppedInOrder, StrictFault}
use Rattle.rkyv_btree_writing_laws.specs.Serialising.{Serialised, StoppedBuilding, Miscounted, BuildFault}

module _ {S P A : Type 0} (outer : S → Option A → S → Type 0) (inner : P → Option A → P → Type 0) (within : S → P) (each : (s : S) (item : Option A) (t : S) → outer s item t → inner (within s) item (within t)) where
  pub yields_within : (s : S) (items : List A) (t : S) → Yields outer s items t → Yields inner (within s) items (within t)
  yields_within s [] t y = ap within y
  yields_within s (x ∷ items) t y = (within y.0, each _ _ _ y.1, yields_within y.0 items t y.2)

  pub drains_within : (s : S) (items : List A) → Drains outer s items → Drains inner (within s) items
  drains_within s items d = (within d.0, (within d.1.0, yields_within s items d.1.0 d.1.1, each _ _ _ d.1.2))

module _ {I M N R S P Q : Type 0} (K V : Kind) (E : ℕ) (KA : Archival M R) (VA : Archival N S) (borrowed : I → M × N) (outer : Q → Option I → Q → Type 0) (inner : P → Option I → P → Type 0) (within : Q → P)
    (each : (s : Q) (item : Option I) (t : Q) → outer s item t → inner (within s) item (within t)) (iter : Q) (claim : ℕ) where
  pub serialised_within : (from : Writing) (root : ℕ) (t : Writing) → Serialised K V E KA VA borrowed outer iter claim from root t → Serialised K V E KA VA borrowed inner (within iter) claim from root t
  serialised_within from root t h = record { items = h.items; all = drains_within outer inner within each iter h.items h.all; count = h.count; built = h.built; spelled = h.spelled }

  pub stopped_within : {X : Type 0} (from : Writing) (fault : Fault X) (t : Writing) → StoppedBuilding K V E KA VA borrowed outer iter claim from fault t → StoppedBuilding K V E KA VA borrowed inner (within iter) claim from fault t
  stopped_within from fault t h = record { items = h.items; rest = within h.rest; taken = yields_within outer inner within each iter h.items h.rest h.taken; entries = h.entries; claimed = h.claimed; stopped = h.stopped }

  pub miscounted_within : (expected actual : ℕ) (from t : Writing) → Miscounted K V E KA VA borrowed outer iter claim expected actual from t → Miscounted K V E KA VA borrowed inner (within iter) claim expected actual from t
  miscounted_within expected actual from t h = record { items = h.items; all = drains_within outer inner within each iter h.items h.all; differs = h.differs; claimed = h.claimed; counted = h.counted; none = h.none; few = h.few; many = h.many }

  pub fault_within : {X : Type 0} (from : Writing) (fault : Fault X) (t : Writing) → BuildFault K V E KA VA borrowed outer iter claim from fault t → BuildFault K V E KA VA borrowed inner (within iter) claim from fault t
  fault_within from (Length m) t h = miscounted_within m.expected m.actual from t h
  fault_within {X} from LengthOverflow t h = elim h [ inl past ↦ inl past | inr stopped ↦ inr (stopped_within {X = X} from LengthOverflow t stopped) ]
  fault_within {X} from PositionOverflow t h = stopped_within {X = X} from PositionOverflow t h
  fault_within {X} from OffsetOverflow t h = stopped_within {X = X} from OffsetOverflow t h
  fault_within from (Writer error) t h = stopped_within from (Writer error) t h
  fault_within {X} from (Memory error) t h = elim h [ inl none ↦ inl none | inr stopped ↦ inr (stopped_within {X = X} from (Memory error) t stopped) ]
  fault_within {X} from (Entry fault) t h = stopped_within {X = X} from (Entry fault) t h
  fault_within from (OutOfOrder index) t h = absurd h

  -- and where keys must increase
  module _ (order : M → M → Ordering) where
    stopped_in_order_within : {X : Type 0} (from : Writing) (fault : Fault X) (t : Writing) → StoppedInOrder order K V E KA VA borrowed outer iter claim from fault t → StoppedInOrder order K V E KA VA borrowed inner (within iter) claim from fault t
    unfolding stopped_within
    stopped_in_order_within from fault t h = (stopped_within from fault t h.0, h.1)

    pub strict_within : {X : Type 0} (from : Writing) (fault : Fault X) (t : Writing) → StrictFault order K V E KA VA borrowed outer iter claim from fault t → StrictFault order K V E KA VA borrowed inner (within iter) claim from fault t
    unfolding miscounted_within
    strict_within from (Length m) t h = (miscounted_within m.expected m.actual from t h.0, h.1)
    strict_within {X} from LengthOverflow t h = elim h [ inl past ↦ inl past | inr stopped ↦ inr (stopped_in_order_within {X = X} from LengthOverflow t stopped) ]
    strict_within {X} from PositionOverflow t h = stopped_in_order_within {X = X} from PositionOverflow t h
    strict_within {X} from OffsetOverflow t h = stopped_in_order_within {X = X} from OffsetOverflow t h
    strict_within from (Writer error) t h = stopped_in_order_within from (Writer error) t h
    strict_within {X} from (Memory error) t h = elim h [ inl none ↦ inl none | inr stopped ↦ inr (stopped_in_order_within {X = X} from (Memory error) t stopped) ]
    strict_within {X} from (Entry fault) t h = stopped_in_order_within {X = X} from (Entry fault) t h
    strict_within from (OutOfOrder index) t h = record {
      items = h.items;
      rest = within h.rest;
      taken = yields_within outer inner within each iter h.items h.rest h.taken;
      claimed = h.claimed;
      last = h.last;
      out = h.out;
      begun = h.begun;
    }
