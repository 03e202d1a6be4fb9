-- What building an archive for C does.
use Rattle.std.specs.Prelude.{◌≡◌, ℕ, ◌<◌, ◌≤◌, List, ◌∷◌, length, map, drop, pos, Result, Ok, Err, ◌⊎◌, ◌++◌}
use Rattle.std.specs.List.{All, range_with_len}
use Rattle.std.specs.declared.alloc.AllocError.{AllocError}
use Rattle.std.specs.declared.alloc.Global.{Global}
use Rattle.std.specs.declared.vec.Vec.{Vec}
use Rattle.std.specs.declared.cmp.Ordering.{Ordering}
use Rattle.rkyv_btree_writer.specs.Archiving.{Archival, IsUnserialised, Serialises}
use Rattle.rkyv_btree_writer.specs.declared.fault.Fault.{Fault}
use Rattle.rkyv_btree_writer.specs.declared.fault.Fault.TheVariants.{Length, LengthOverflow, PositionOverflow, OffsetOverflow, Writer, Memory, Entry, OutOfOrder}
use Rattle.rkyv_btree_format.specs.Increasing.{Increasing as AreIncreasing, IsOutOfOrder}
use Rattle.rkyv_btree_writing_laws.specs.Serialising.{RootFault}
use Rattle.rkyv_btree_writing_laws.specs.TreeArchival.{tree_archival}
use Rattle.rkyv_btree_writing_laws.specs.Whole.{fresh}
use Rattle.rkyv_btree_writer.specs.Writing.{Writing}
use Rattle.rkyv_btree_ffi.specs.Columns.{IsCell, cell_value}
use Rattle.rkyv_btree_ffi.specs.Items.{IsOfType, item_value, Native, native_value, archival_of}
use Rattle.rkyv_btree_ffi.specs.Lengths.{IsArchiveOfLength}
use Rattle.rkyv_btree_ffi.specs.MapTypes.{key_kind, value_kind}
use Rattle.rkyv_btree_ffi.specs.declared.building.BuildFault.{BuildFault}
use Rattle.rkyv_btree_ffi.specs.declared.building.BuildFault.TheVariants.{BadItem, Unbuilt}
use Rattle.rkyv_btree_ffi.specs.declared.codes.BtreeRefusal.{BtreeRefusal}
use Rattle.rkyv_btree_ffi.specs.declared.column.BtreeColumn.{BtreeColumn}
use Rattle.rkyv_btree_ffi.specs.declared.order.Order.{Order}
use Rattle.rkyv_btree_ffi.specs.declared.order.Order.TheVariants.{Increasing}
use Rattle.rkyv_btree_ffi.specs.declared.item.BtreeEntry.{BtreeEntry}
use Rattle.rkyv_btree_ffi.specs.declared.map_type.MapType.{MapType}

-- the library stops with a fault when it writes native entries from position 0 on: in their tree, or in the map after it
abbrev pub StopsWith : {M N R S : Type 0} → Archival M R → Archival N S → List (M × N) → Fault AllocError → Type 0
StopsWith KA VA natives fault =
    (left : Writing) × (IsUnserialised (tree_archival 5 KA VA (λ xs. xs)) natives fresh fault left
    ⊎ ((root : ℕ) × (mid : Writing) × Serialises (tree_archival 5 KA VA (λ xs. xs)) natives fresh mid root × RootFault root (length natives) mid fault left))

-- the entry at an index is the first that isn't of the map's type
pub record IsFirstBad {E : Type 0} (IsOf : E → Type 0) (entries : List E) (index : ℕ) : Type 0 where
  pub front : List E
  pub entry : E
  pub back : List E
  pub parts : entries ≡ front ++ entry ∷ back
  pub number : index ≡ length front
  pub good : All IsOf front
  pub bad : IsOf entry → ⊥

-- of entries of any map: which are of its type, what they mean, and the order of keys
module _ {E A B : Type 0} (IsOf : E → Type 0) (meaning : E → A × B) (key_order : A → A → Ordering) (order : Order)
    (entries : List E) where
  -- all entries are of the map's type, and what they mean is archived; their keys increase if they must
  pub record IsBuiltOf (IsArchived : List (A × B) → Type 0) : Type 0 where
    pub good : All IsOf entries
    pub archived : IsArchived (map meaning entries)
    pub increasing : order ≡ Increasing → AreIncreasing key_order (map meaning entries)

  -- why there is no archive, if it is known where the library stops. Nothing is said of a failed allocation
  abbrev pub IsUnbuiltOf : (List (A × B) → Fault AllocError → Type 0) → BuildFault → Type 0
  IsUnbuiltOf Stops (BadItem index) = IsFirstBad IsOf entries index
  IsUnbuiltOf Stops (Unbuilt (Memory error)) = Unit {0}
  IsUnbuiltOf Stops (Unbuilt (Writer error)) = Unit {0}
  IsUnbuiltOf Stops (Unbuilt (OutOfOrder index)) = (order ≡ Increasing) × All IsOf entries × IsOutOfOrder key_order (map meaning entries) index
  IsUnbuiltOf Stops (Unbuilt LengthOverflow) = All IsOf entries × Stops (map meaning entries) LengthOverflow
  IsUnbuiltOf Stops (Unbuilt PositionOverflow) = All IsOf entries × Stops (map meaning entries) PositionOverflow
  IsUnbuiltOf Stops (Unbuilt OffsetOverflow) = All IsOf entries × Stops (map meaning entries) OffsetOverflow
  IsUnbuiltOf Stops (Unbuilt (Length mismatch)) = ⊥
  IsUnbuiltOf Stops (Unbuilt (Entry fault)) = ⊥

module _ (t : MapType) (texts : List ℕ) where
  -- an entry that C hands in is of the map's type
  abbrev pub IsEntryOf : BtreeEntry → Type 0
  IsEntryOf e = IsOfType t.key texts e.key × IsOfType t.value texts e.value

  -- the key and the value that it is
  abbrev pub given : BtreeEntry → (key_kind t).Value × (value_kind t).Value
  given e = (item_value t.key texts e.key, item_value t.value texts e.value)

module _ (t : MapType) (keys values : BtreeColumn) where
  -- two columns have an entry of the map's type at an index
  abbrev pub IsRowOf : ℕ → Type 0
  IsRowOf i = IsCell t.key keys i × IsCell t.value values i

  -- the key and the value there
  abbrev pub row : ℕ → (key_kind t).Value × (value_kind t).Value
  row i = (cell_value t.key keys i, cell_value t.value values i)

-- the library stops with a fault when it archives native entries that mean these
abbrev pub Stops : (t : MapType) → List ((key_kind t).Value × (value_kind t).Value) → Fault AllocError → Type 0
Stops t entries fault =
    (natives : List (Native t.key × Native t.value))
    × (map (λ x. (native_value t.key x.0, native_value t.value x.1)) natives ≡ entries)
    × StopsWith (archival_of t.key) (archival_of t.value) natives fault

-- the bytes are the archive of the entries that C hands in, and no longer than these take
abbrev pub IsBuilt : MapType → Order → List ℕ → List BtreeEntry → List ℕ → Type 0
IsBuilt t order texts entries bytes = IsBuiltOf (IsEntryOf t texts) (given t texts) (key_kind t).order order entries (IsArchiveOfLength t bytes)

-- why they have none
abbrev pub IsUnbuilt : MapType → Order → List ℕ → List BtreeEntry → BuildFault → Type 0
IsUnbuilt t order texts entries = IsUnbuiltOf (IsEntryOf t texts) (given t texts) (key_kind t).order order entries (Stops t)

-- the archive of the entries that C hands in, by its bytes, or why there is none
abbrev pub Archives : MapType → Order → List ℕ → List BtreeEntry → Result (Vec ℕ Global) BuildFault → Type 0
Archives t order texts entries (Ok archive) = IsBuilt t order texts entries archive.items
Archives t order texts entries (Err fault) = IsUnbuilt t order texts entries fault

-- the archive of the first entries of two columns, as many as these, by its bytes, or why there is none
abbrev pub ArchivesColumns : MapType → Order → BtreeColumn → BtreeColumn → ℕ → Result (Vec ℕ Global) BuildFault → Type 0
ArchivesColumns t order keys values len (Ok archive) =
    IsBuiltOf (IsRowOf t keys values) (row t keys values) (key_kind t).order order (range_with_len 0 len) (IsArchiveOfLength t archive.items)
ArchivesColumns t order keys values len (Err fault) =
    IsUnbuiltOf (IsRowOf t keys values) (row t keys values) (key_kind t).order order (range_with_len 0 len) (Stops t) fault

-- the code of an error of building
abbrev pub code_of : BuildFault → ℕ
code_of (BadItem index) = 36
code_of (Unbuilt LengthOverflow) = 32
code_of (Unbuilt PositionOverflow) = 33
code_of (Unbuilt OffsetOverflow) = 34
code_of (Unbuilt (Writer error)) = 35
code_of (Unbuilt (Memory error)) = 35
code_of (Unbuilt (OutOfOrder index)) = 37
code_of (Unbuilt (Length mismatch)) = 36
code_of (Unbuilt (Entry fault)) = 36

-- the index of the entry that is bad or out of order, or 0
abbrev pub index_of : BuildFault → ℕ
index_of (BadItem index) = index
index_of (Unbuilt (OutOfOrder index)) = index
index_of (Unbuilt LengthOverflow) = 0
index_of (Unbuilt PositionOverflow) = 0
index_of (Unbuilt OffsetOverflow) = 0
index_of (Unbuilt (Writer error)) = 0
index_of (Unbuilt (Memory error)) = 0
index_of (Unbuilt (Length mismatch)) = 0
index_of (Unbuilt (Entry fault)) = 0

-- the cause of an error of building, as C has it
abbrev pub cause_of : BuildFault → BtreeRefusal
cause_of fault = record { code = code_of fault; at = pos 0; found = index_of fault; allowed = 0 }

-- an archive is written, and its length; or there is no room for it, and nothing is written but its length; or there is none, and
-- nothing is written but the cause
abbrev pub Puts : Result (Vec ℕ Global) BuildFault → List ℕ → List ℕ → ℕ → ℕ → BtreeRefusal → BtreeRefusal → ℕ → Type 0
Puts (Ok archive) old new old_len len old_why why code =
    (len ≡ length archive.items)
    × (((code ≡ 0) × (len ≤ length old) × (new ≡ archive.items ++ drop len old)) ⊎ ((code ≡ 38) × (length old < len) × (new ≡ old)))
    × (why ≡ old_why)
Puts (Err fault) old new old_len len old_why why code = (code ≡ code_of fault) × (why ≡ cause_of fault) × (new ≡ old) × (len ≡ old_len)
