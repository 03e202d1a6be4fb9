-- What is left in a writer where entries are written as a map.
use Rattle.std.specs.Prelude.{◌≡◌, ℕ, ◌+◌, ◌<◌, ◌≤◌, List, ◌++◌, length, map, MatchOption, Option}
use Rattle.std.specs.declared.cmp.Ordering.{Ordering}
use Rattle.rkyv_btree_writer.specs.Archiving.{Archival, BeginsWith}
use Rattle.rkyv_btree_writer.specs.declared.fault.Fault.{Fault}
use Rattle.rkyv_btree_writer.specs.declared.fault.Fault.TheVariants.{LengthOverflow, Memory, OutOfOrder}
use Rattle.rkyv_btree_format.specs.Increasing.{IsOutOfOrder}
use Rattle.rkyv_btree_writing_laws.specs.Kept.{OnlyAppended}
use Rattle.rkyv_btree_portable.specs.Kind.{Kind}
use Rattle.rkyv_btree_format.specs.Layout.{layout_of}
use Rattle.rkyv_btree_shape.specs.Plan.{planned_alone}
use Rattle.rkyv_btree_writing_laws.specs.Serialising.{Built, RootFault}
use Rattle.rkyv_btree_writing_laws.specs.SmallestMaps.{IsSmallestMap, map_at}
use Rattle.rkyv_btree_format.specs.Spells.{Accepted}
use Rattle.rkyv_btree_writer.specs.Writing.{Writing, last_end, position}
use Rattle.rkyv_btree_writing_laws.specs.Written.{ChildStopped}
use Rattle.rkyv_btree_strict.specs.Strict.{IsStrictMap}
use Rattle.rkyv_btree_update.specs.Natives.{both}
use Rattle.rkyv_btree_update.specs.declared.change.Change.{Change}

-- the number of elements of a list, if it has 32 bits
abbrev pub IsCount : {X : Type 0} → List X → Option ℕ → Type 0
IsCount list count = MatchOption count (last_end < length list) (λ n. (n ≡ length list) × (n ≤ last_end))

module _ (K V : Kind) (E : ℕ) (m : List (K.Value × V.Value)) (from : Writing) (at : ℕ) (to : Writing) where
  -- the bytes of the writer, after as many bytes as its base, are a strict map of these entries at a position
  abbrev pub WritesStrict : Type 0
  WritesStrict = (front : List ℕ) → length front ≡ from.base → IsStrictMap K V E (front ++ to.contents) at m

  -- and this is a smallest one
  abbrev pub WritesSmallest : Type 0
  WritesSmallest =
      (front : List ℕ) → length front ≡ from.base
      → (left : ℕ) × (a : Accepted K V E (front ++ to.contents) 0 at at left m) × IsSmallestMap (map_at a)

  -- the entries were written as a map at a position
  pub record IsWritten : Type 0 where
    -- the writer's bytes are a strict map of them
    pub strict : WritesStrict
    -- no accepted map with as many entries has fewer nodes, node bytes or levels
    pub smallest : WritesSmallest

-- a map at a position was appended to a writer's bytes
pub record IsAppended (from : Writing) (at : ℕ) (to : Writing) : Type 0 where
  -- it is the last of them
  pub end : position to ≡ at + 8
  -- no write has failed, and bytes were only appended
  pub went : OnlyAppended from to

module _ {X Y T U R S : Type 0} (K V : Kind) (E : ℕ) (KA : Archival X R) (VA : Archival Y S)
    (key : X → T) (value : Y → U) where
  -- why entries that show a list aren't written as a map, and the state that is left
  pub data StopsWriting {F : Type 0} (list : List (T × U)) (from : Writing) (fault : Fault F) (to : Writing) : Type 0 where
    -- they are more than 4294967295, and nothing was written
    too_many : fault ≡ LengthOverflow → last_end < length list → to ≡ from → StopsWriting list from fault to
    -- an allocation failed before anything was written
    no_memory : (error : _) → fault ≡ Memory error → to ≡ from → StopsWriting list from fault to
    -- some first entries were taken, and whatever the others are, the writing of the tree of all is stopped
    in_tree : (items : List (X × Y)) (later : List (T × U)) → list ≡ map (both key value) items ++ later
        → ((entries rest : List (X × Y)) → entries ≡ items ++ rest → length entries ≡ length list
        → ChildStopped (layout_of K V E) KA VA from (planned_alone E entries) fault to)
        → StopsWriting list from fault to
    -- the tree was written, and the map after it wasn't
    in_map : (entries : List (X × Y)) → map (both key value) entries ≡ list → (root : ℕ) (mid : Writing)
        → Built (layout_of K V E) KA VA from entries root mid → RootFault root (length list) mid fault to
        → StopsWriting list from fault to

  -- the same, by the fault: none is that of an entry out of order
  abbrev pub FailsToWrite : {F : Type 0} → List (T × U) → Writing → Fault F → Writing → Type 0
  FailsToWrite list from (OutOfOrder index) to = ⊥
  FailsToWrite list from fault to = StopsWriting list from fault to

  -- why an update fails: a change is out of order, and nothing was written; or the entries after the changes aren't written
  abbrev pub FailsToUpdate : {F : Type 0} → (X → X → Ordering) → List (X × Change Y) → List (T × U) → Writing → Fault F → Writing → Type 0
  FailsToUpdate cmp changes list from (OutOfOrder index) to = IsOutOfOrder cmp changes index × (to ≡ from)
  FailsToUpdate cmp changes list from fault to = StopsWriting list from fault to

  -- an error stopped the writing of entries that show a list
  pub record IsNotWritten {F : Type 0} (list : List (T × U)) (from : Writing) (fault : Fault F) (to : Writing) : Type 0 where
    pub cause : FailsToWrite list from fault to
    -- the contents begin with the old ones
    pub kept : BeginsWith to from

  -- an error stopped an update
  pub record IsNotUpdated {F : Type 0} (cmp : X → X → Ordering) (changes : List (X × Change Y)) (list : List (T × U))
      (from : Writing) (fault : Fault F) (to : Writing) : Type 0 where
    pub cause : FailsToUpdate cmp changes list from fault to
    -- the contents begin with the old ones
    pub kept : BeginsWith to from
