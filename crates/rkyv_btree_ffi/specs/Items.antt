-- Keys and values as C has them.
use Rattle.std.specs.Borrow.{Bor}
use Rattle.std.specs.Int.{w64, cast_signed, cast_unsigned}
use Rattle.std.specs.Prelude.{◌≡◌, ℕ, ℤ, ◌+◌, ◌≤◌, ◌<◌, List, length, IsUtf8}
use Rattle.rkyv_btree_writer.specs.Archiving.{Archival, native_archival}
use Rattle.rkyv_btree_portable.specs.Bytes.{bytes_at}
use Rattle.rkyv_btree_portable.specs.Kind.{Kind}
use Rattle.rkyv_btree_portable.specs.Natives.{u32_form, u64_form, i64_form, unit_form}
use Rattle.rkyv_btree_writer.specs.BytesArchival.{bytes_archival}
use Rattle.rkyv_btree_writer.specs.TextArchival.{text_archival}
use Rattle.rkyv_btree_ffi.specs.declared.item.BtreeItem.{BtreeItem}
use Rattle.rkyv_btree_ffi.specs.declared.map_type.ItemType.{ItemType}
use Rattle.rkyv_btree_ffi.specs.declared.map_type.ItemType.TheVariants.{U32, U64, I64, Text, Bytes, Empty}

-- native keys and values of a type, what serialising them tells, and how they are archived. A text is borrowed, and so are bytes
abbrev pub Native : ItemType → Type 0
Native U32 = ℕ
Native U64 = ℕ
Native I64 = ℤ
Native Text = Bor (List ℕ)
Native Bytes = Bor (List ℕ)
Native Empty = Unit {0}

abbrev pub Resolver : ItemType → Type 0
Resolver U32 = Unit {0}
Resolver U64 = Unit {0}
Resolver I64 = Unit {0}
Resolver Text = ℕ
Resolver Bytes = ℕ
Resolver Empty = Unit {0}

abbrev pub archival_of : (i : ItemType) → Archival (Native i) (Resolver i)
archival_of U32 = native_archival u32_form
archival_of U64 = native_archival u64_form
archival_of I64 = native_archival i64_form
archival_of Text = text_archival (λ t. t.now)
archival_of Bytes = bytes_archival (λ t. t.now)
archival_of Empty = native_archival unit_form

-- what their archived bytes are, and what native ones mean
abbrev pub kind_at : ItemType → Kind
kind_at i = (archival_of i).kind

abbrev pub native_value : (i : ItemType) → Native i → (kind_at i).Value
native_value i = (archival_of i).meaning

-- an item is this number
pub record IsNumberItem (value : ℕ) (item : BtreeItem) : Type 0 where
  pub number : item.number ≡ value
  pub start : item.start ≡ 0
  pub len : item.len ≡ 0

-- an item gives the place of these bytes, of a text or any, which lie in the buffer
pub record IsBytesItem (b value : List ℕ) (item : BtreeItem) : Type 0 where
  pub number : item.number ≡ 0
  pub inside : item.start + item.len ≤ length b
  pub bytes : bytes_at b item.start item.len ≡ value

-- an item is this key or value. A number with a sign is in two's complement, and a value without bytes is all zeros
abbrev pub IsItem : (i : ItemType) → List ℕ → (kind_at i).Value → BtreeItem → Type 0
IsItem U32 b value item = IsNumberItem value item
IsItem U64 b value item = IsNumberItem value item
IsItem I64 b value item = IsNumberItem (cast_unsigned w64 value) item
IsItem Text b value item = IsBytesItem b value item
IsItem Bytes b value item = IsBytesItem b value item
IsItem Empty b value item = IsNumberItem 0 item

-- an item is what is stored at a position
abbrev pub IsItemAt : ItemType → List ℕ → ℕ → BtreeItem → Type 0
IsItemAt i b at item = IsItem i b ((kind_at i).read b at) item

-- an item that C hands in is of the type: a number below 2 to the 32nd, any number, or the place of a text or of bytes in the
-- buffer of texts; for a value without bytes it is anything
abbrev pub IsOfType : ItemType → List ℕ → BtreeItem → Type 0
IsOfType U32 texts item = item.number < 4294967296
IsOfType U64 texts item = Unit {0}
IsOfType I64 texts item = Unit {0}
IsOfType Bytes texts item = item.start + item.len ≤ length texts
IsOfType Empty texts item = Unit {0}
IsOfType Text texts item = (item.start + item.len ≤ length texts) × IsUtf8 (bytes_at texts item.start item.len)

-- the key or the value that it is
abbrev pub item_value : (i : ItemType) → List ℕ → BtreeItem → (kind_at i).Value
item_value U32 texts item = item.number
item_value U64 texts item = item.number
item_value I64 texts item = cast_signed w64 item.number
item_value Text texts item = bytes_at texts item.start item.len
item_value Bytes texts item = bytes_at texts item.start item.len
item_value Empty texts item = tt

abbrev pub IsNative : (i : ItemType) → List ℕ → BtreeItem → Native i → Type 0
IsNative i texts item native = native_value i native ≡ item_value i texts item
