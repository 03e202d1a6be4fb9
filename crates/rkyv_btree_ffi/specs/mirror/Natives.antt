-- Native entries that are made of what C hands in, and their archive. These mirror the code, which makes all native entries first.
use Rattle.std.specs.Prelude.{◌≡◌, ℕ, ◌+◌, List, length, map}
use Rattle.std.specs.List.{All, AllZip}
use Rattle.std.specs.declared.alloc.AllocError.{AllocError}
use Rattle.std.specs.declared.cmp.Ordering.{Ordering}
use Rattle.rkyv_btree_writer.specs.Archiving.{Archival, Matches, IsUnserialised}
use Rattle.rkyv_btree_writer.specs.declared.fault.Fault.{Fault}
use Rattle.rkyv_btree_writer.specs.declared.fault.Fault.TheVariants.{Memory, OutOfOrder}
use Rattle.rkyv_btree_format.specs.Increasing.{Increasing as AreIncreasing, IsOutOfOrder}
use Rattle.rkyv_btree_format.specs.Layout.{NodeLayout, layout_of}
use Rattle.rkyv_btree_portable.specs.Kind.{Kind}
use Rattle.rkyv_btree_portable.specs.Rounding.{round_up}
use Rattle.rkyv_btree_verify.specs.Map.{map_kind}
use Rattle.rkyv_btree_writing_laws.specs.SmallestMaps.{entry_value}
use Rattle.rkyv_btree_writing_laws.specs.Serialising.{Built}
use Rattle.rkyv_btree_writing_laws.specs.TreeArchival.{tree_archival}
use Rattle.rkyv_btree_writing_laws.specs.Whole.{fresh}
use Rattle.rkyv_btree_format.specs.OwnBytes.{IsArchiveOf}
use Rattle.rkyv_btree_writer.specs.Writing.{Writing, position}
use Rattle.rkyv_btree_ffi.specs.Building.{StopsWith, IsFirstBad}
use Rattle.rkyv_btree_ffi.specs.declared.building.BuildFault.{BuildFault}
use Rattle.rkyv_btree_ffi.specs.declared.building.BuildFault.TheVariants.{BadItem, Unbuilt}
use Rattle.rkyv_btree_ffi.specs.declared.order.Order.{Order}
use Rattle.rkyv_btree_ffi.specs.declared.order.Order.TheVariants.{Increasing}
use Rattle.rkyv_btree_ffi.specs.declared.column.BtreeColumn.{BtreeColumn}
use Rattle.rkyv_btree_ffi.specs.declared.item.BtreeEntry.{BtreeEntry}
use Rattle.rkyv_btree_ffi.specs.declared.item.BtreeItem.{BtreeItem}

module _ {M N R S : Type 0} (KA : Archival M R) (VA : Archival N S) where
  -- what native entries mean
  abbrev pub native_meaning : M × N → KA.kind.Value × VA.kind.Value
  native_meaning x = (KA.meaning x.0, VA.meaning x.1)

  -- the library stops with a fault when it archives native entries that mean these
  abbrev pub NativesStop : List (KA.kind.Value × VA.kind.Value) → Fault AllocError → Type 0
  NativesStop entries fault = (natives : List (M × N)) × (map native_meaning natives ≡ entries) × StopsWith KA VA natives fault

  -- why no tree of native entries is written
  abbrev pub TreeFault : (M → M → Ordering) → Order → List (M × N) → Writing → Fault AllocError → Writing → Type 0
  TreeFault key_order order natives from (OutOfOrder index) to = (order ≡ Increasing) × IsOutOfOrder key_order natives index
  TreeFault key_order order natives from fault to = IsUnserialised (tree_archival 5 KA VA (λ xs. xs)) natives from fault to

  -- why there is no archive of native entries
  abbrev pub NativeFault : (M → M → Ordering) → Order → List (M × N) → Fault AllocError → Type 0
  NativeFault key_order order natives (OutOfOrder index) = (order ≡ Increasing) × IsOutOfOrder key_order natives index
  NativeFault key_order order natives fault = StopsWith KA VA natives fault

  -- bytes are the archive of native entries
  abbrev pub ArchivesNatives : Kind → Kind → List (M × N) → List ℕ → Type 0
  ArchivesNatives K V natives bytes =
      (key : Matches KA.kind K) (value : Matches VA.kind V) → IsArchiveOf (map_kind K V 5) bytes (map (entry_value K V 5 KA VA key value) natives)

  -- an archive has as many bytes as the tree of native entries and the map after it
  pub record HasTree (s : NodeLayout) (natives : List (M × N)) (len : ℕ) : Type 0 where
    pub root : ℕ
    pub left : Writing
    pub built : Built s KA VA fresh natives root left
    pub long : len ≡ round_up (position left) 4 + 8

-- an entry's key and value are of their types
abbrev pub IsOfBoth : (IsKey IsValue : List ℕ → BtreeItem → Type 0) → List ℕ → BtreeEntry → Type 0
IsOfBoth IsKey IsValue texts e = IsKey texts e.key × IsValue texts e.value

-- two columns have an entry of their types at an index
abbrev pub IsRow : (IsKey IsValue : BtreeColumn → ℕ → Type 0) → BtreeColumn → BtreeColumn → ℕ → Type 0
IsRow IsKey IsValue keys values i = IsKey keys i × IsValue values i

-- why not all entries have native values
abbrev pub IsUngiven : {E : Type 0} (IsOf : E → Type 0) → List E → BuildFault → Type 0
IsUngiven IsOf entries (BadItem index) = IsFirstBad IsOf entries index
IsUngiven IsOf entries (Unbuilt (Memory error)) = Unit {0}
IsUngiven IsOf entries (Unbuilt fault) = ⊥

module _ {E M N : Type 0} (IsOf : E → Type 0) (GivesKey : E → M → Type 0) (GivesValue : E → N → Type 0) where
  -- an entry means a native one
  abbrev pub GivesBoth : E → M × N → Type 0
  GivesBoth e x = GivesKey e x.0 × GivesValue e x.1

  -- all entries are of their types, and mean native ones
  pub record AreGiven (entries : List E) (natives : List (M × N)) : Type 0 where
    pub good : All IsOf entries
    pub each : AllZip GivesBoth entries natives

  -- the bytes are the archive of native entries that the entries mean
  pub record BuiltGiven {R S : Type 0} (order : Order) (entries : List E) (K V : Kind) (KA : Archival M R) (VA : Archival N S)
      (key_order : M → M → Ordering) (bytes : List ℕ) : Type 0 where
    pub natives : List (M × N)
    pub given : AreGiven entries natives
    pub archived : ArchivesNatives KA VA K V natives bytes
    pub tree : HasTree KA VA (layout_of K V 5) natives (length bytes)
    pub increasing : order ≡ Increasing → AreIncreasing key_order natives

  -- why there is none
  abbrev pub UnbuiltGiven : {R S : Type 0} → Order → List E → Archival M R → Archival N S → (M → M → Ordering) → BuildFault → Type 0
  UnbuiltGiven order entries KA VA key_order (BadItem index) = IsFirstBad IsOf entries index
  UnbuiltGiven order entries KA VA key_order (Unbuilt (Memory error)) = Unit {0}
  UnbuiltGiven order entries KA VA key_order (Unbuilt fault) =
      (natives : List (M × N)) × AreGiven entries natives × NativeFault KA VA key_order order natives fault
