-- Keys or values that C has one after the other, as columns.
use Rattle.std.specs.Prelude.{◌≡◌, ℕ, ◌+◌, ◌-◌, ◌*◌, ◌≤◌, List, length, IsUtf8, ◌⊎◌}
use Rattle.std.specs.Int.{w64, cast_signed}
use Rattle.rkyv_btree_portable.specs.Bytes.{bytes_at, number_at}
use Rattle.rkyv_btree_ffi.specs.Items.{kind_at, Native, native_value}
use Rattle.rkyv_btree_ffi.specs.declared.column.BtreeColumn.{BtreeColumn}
use Rattle.rkyv_btree_ffi.specs.declared.map_type.ItemType.{ItemType}
use Rattle.rkyv_btree_ffi.specs.declared.map_type.ItemType.TheVariants.{U32, U64, I64, Text, Bytes, Empty}

module _ (c : BtreeColumn) (i : ℕ) where
  -- where the bytes at an index begin, and where those before them end
  abbrev pub offset : ℕ
  offset = number_at c.offsets.now (c.offset_size * i) c.offset_size

  -- the column has so many offsets, of four bytes or of eight
  abbrev pub HasOffset : Type 0
  HasOffset = ((c.offset_size ≡ 4) × (4 * i + 4 ≤ length c.offsets.now)) ⊎ ((c.offset_size ≡ 8) × (8 * i + 8 ≤ length c.offsets.now))

-- the bytes at an index
abbrev pub bytes_in : BtreeColumn → ℕ → List ℕ
bytes_in c i = bytes_at c.buf.now (offset c i) (offset c (i + 1) - offset c i)

-- the column has bytes at an index: their offsets are there, and they lie in the buffer
pub record HasBytes (c : BtreeColumn) (i : ℕ) : Type 0 where
  pub there : HasOffset c (i + 1)
  pub order : offset c i ≤ offset c (i + 1)
  pub inside : offset c (i + 1) ≤ length c.buf.now

-- and they are a text, in UTF-8
pub record IsText (c : BtreeColumn) (i : ℕ) : Type 0 where
  pub bytes : HasBytes c i
  pub utf8 : IsUtf8 (bytes_in c i)

-- the column has a key or a value of the type at an index
abbrev pub IsCell : ItemType → BtreeColumn → ℕ → Type 0
IsCell U32 c i = 4 * i + 4 ≤ length c.buf.now
IsCell U64 c i = 8 * i + 8 ≤ length c.buf.now
IsCell I64 c i = 8 * i + 8 ≤ length c.buf.now
IsCell Text c i = IsText c i
IsCell Bytes c i = HasBytes c i
IsCell Empty c i = Unit {0}

-- the key or the value that it is
abbrev pub cell_value : (t : ItemType) → BtreeColumn → ℕ → (kind_at t).Value
cell_value U32 c i = number_at c.buf.now (4 * i) 4
cell_value U64 c i = number_at c.buf.now (8 * i) 8
cell_value I64 c i = cast_signed w64 (number_at c.buf.now (8 * i) 8)
cell_value Text c i = bytes_in c i
cell_value Bytes c i = bytes_in c i
cell_value Empty c i = tt

abbrev pub IsNativeCell : (t : ItemType) → BtreeColumn → ℕ → Native t → Type 0
IsNativeCell t c i native = native_value t native ≡ cell_value t c i
