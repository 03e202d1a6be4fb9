-- The types of maps that C opens and builds: their numbers, and what their keys and values are.
use Rattle.std.specs.Prelude.{◌≡◌, ℕ, List, Option, Some, None, nat_eq, if◌then◌else◌}
use Rattle.rkyv_btree_portable.specs.Kind.{Kind}
use Rattle.rkyv_btree_verify.specs.Map.{map_kind}
use Rattle.rkyv_btree_format.specs.Read.{read_map}
use Rattle.rkyv_btree_ffi.specs.Items.{kind_at}
use Rattle.rkyv_btree_ffi.specs.declared.map_type.ItemType.{ItemType}
use Rattle.rkyv_btree_ffi.specs.declared.map_type.ItemType.TheVariants.{U32, U64, I64, Text, Bytes, Empty}
use Rattle.rkyv_btree_ffi.specs.declared.map_type.MapType.{MapType}

-- the type of maps with keys and values of two types
abbrev pub typed : ItemType → ItemType → MapType
typed key value = record { key = key; value = value }

-- the type with a number
abbrev pub type_of : ℕ → Option MapType
type_of n =
    if nat_eq n 1 then Some (typed U32 U32) else
    if nat_eq n 2 then Some (typed U32 U64) else
    if nat_eq n 3 then Some (typed U32 Text) else
    if nat_eq n 4 then Some (typed U64 U32) else
    if nat_eq n 5 then Some (typed U64 U64) else
    if nat_eq n 6 then Some (typed U64 Text) else
    if nat_eq n 7 then Some (typed Text U32) else
    if nat_eq n 8 then Some (typed Text U64) else
    if nat_eq n 9 then Some (typed Text Text) else
    if nat_eq n 10 then Some (typed U32 I64) else
    if nat_eq n 11 then Some (typed U64 I64) else
    if nat_eq n 12 then Some (typed I64 U32) else
    if nat_eq n 13 then Some (typed I64 U64) else
    if nat_eq n 14 then Some (typed I64 I64) else
    if nat_eq n 15 then Some (typed I64 Text) else
    if nat_eq n 16 then Some (typed Text I64) else
    if nat_eq n 17 then Some (typed U32 Bytes) else
    if nat_eq n 18 then Some (typed U64 Bytes) else
    if nat_eq n 19 then Some (typed I64 Bytes) else
    if nat_eq n 20 then Some (typed Text Bytes) else
    if nat_eq n 21 then Some (typed Bytes U32) else
    if nat_eq n 22 then Some (typed Bytes U64) else
    if nat_eq n 23 then Some (typed Bytes I64) else
    if nat_eq n 24 then Some (typed Bytes Text) else
    if nat_eq n 25 then Some (typed Bytes Bytes) else
    if nat_eq n 26 then Some (typed U32 Empty) else
    if nat_eq n 27 then Some (typed U64 Empty) else
    if nat_eq n 28 then Some (typed I64 Empty) else
    if nat_eq n 29 then Some (typed Text Empty) else
    if nat_eq n 30 then Some (typed Bytes Empty) else None

abbrev pub key_kind : MapType → Kind
key_kind t = kind_at t.key

abbrev pub value_kind : MapType → Kind
value_kind t = kind_at t.value

-- maps of a type, with five entries a node
abbrev pub kind_of : MapType → Kind
kind_of t = map_kind (key_kind t) (value_kind t) 5

-- the entries of the map at a position
abbrev pub entries_at : (t : MapType) → List ℕ → ℕ → List ((key_kind t).Value × (value_kind t).Value)
entries_at t b at = read_map (key_kind t) (value_kind t) 5 b at

-- what holds of the type with a number, if there is one
abbrev pub IfType : ℕ → (MapType → Type 0) → Type 0
IfType n Holds = (t : MapType) → type_of n ≡ Some t → Holds t
