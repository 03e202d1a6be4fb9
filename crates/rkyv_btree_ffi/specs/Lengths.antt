-- How many bytes an archive has, by how many entries it has and how many bytes their texts have. Byte strings count as texts.
use Rattle.std.specs.Prelude.{◌≡◌, ℕ, ◌+◌, ◌-◌, ◌*◌, ◌≤◌, ◌<◌, ◌⊎◌, min, List, [], ◌∷◌, length}
use Rattle.std.specs.Int.{div_ceil}
use Rattle.rkyv_btree_format.specs.Layout.{NodeLayout, layout_of, align, leaf_size, inner_size}
use Rattle.rkyv_btree_format.specs.OwnBytes.{IsArchiveOf}
use Rattle.rkyv_btree_writer.specs.Writing.{last_end}
use Rattle.rkyv_btree_ffi.specs.Columns.{offset}
use Rattle.rkyv_btree_ffi.specs.Items.{kind_at}
use Rattle.rkyv_btree_ffi.specs.MapTypes.{key_kind, value_kind, kind_of}
use Rattle.rkyv_btree_ffi.specs.declared.column.BtreeColumn.{BtreeColumn}
use Rattle.rkyv_btree_ffi.specs.declared.item.BtreeEntry.{BtreeEntry}
use Rattle.rkyv_btree_ffi.specs.declared.item.BtreeItem.{BtreeItem}
use Rattle.rkyv_btree_ffi.specs.declared.map_type.ItemType.{ItemType}
use Rattle.rkyv_btree_ffi.specs.declared.map_type.ItemType.TheVariants.{U32, U64, I64, Text, Bytes, Empty}
use Rattle.rkyv_btree_ffi.specs.declared.map_type.MapType.{MapType}

-- the nodes that so many entries have, and those of them that have children: docs/FORMAT.md
abbrev pub node_count : ℕ → ℕ
node_count n = div_ceil n 5

abbrev pub inner_count : ℕ → ℕ
inner_count n = div_ceil (node_count n - 1) 6

-- nodes of maps of a type
abbrev pub layout : MapType → NodeLayout
layout t = layout_of (key_kind t) (value_kind t) 5

module _ (t : MapType) (n texts : ℕ) where
  -- an archive of so many entries has at least their texts, their nodes, and the map's own eight bytes
  abbrev pub least_len : ℕ
  least_len = texts + (inner_count n * inner_size (layout t) + (node_count n - inner_count n) * leaf_size (layout t)) + 8

  -- It has zeros besides: before a node with texts, fewer than the node's alignment. And no archive ends past the last position
  abbrev pub most_len : ℕ
  most_len = min (least_len + min (node_count n) texts * (align (layout t) - 1)) last_end

  -- a length that is enough is written; or no archive has so many entries, or so many with such texts, and nothing is written
  abbrev pub Bounds : ℕ → ℕ → ℕ → Type 0
  Bounds old new code =
      ((code ≡ 0) × (n ≤ last_end) × (least_len ≤ last_end) × (new ≡ most_len))
      ⊎ (((code ≡ 32) × (last_end < n) × (new ≡ old))
      ⊎ ((code ≡ 33) × (n ≤ last_end) × (last_end < least_len) × (new ≡ old)))

-- how many bytes a text has, and none has a number
abbrev pub text_len : (i : ItemType) → (kind_at i).Value → ℕ
text_len U32 value = 0
text_len U64 value = 0
text_len I64 value = 0
text_len Text value = length value
text_len Bytes value = length value
text_len Empty value = 0

abbrev pub texts_len : (t : MapType) → List ((key_kind t).Value × (value_kind t).Value) → ℕ
texts_len t [] = 0
texts_len t (e ∷ es) = text_len t.key e.0 + text_len t.value e.1 + texts_len t es

-- the bytes are an archive of entries, and as many as these and their texts take
pub record IsArchiveOfLength (t : MapType) (bytes : List ℕ) (entries : List ((key_kind t).Value × (value_kind t).Value)) : Type 0 where
  pub archive : IsArchiveOf (kind_of t) bytes entries
  pub least : least_len t (length entries) (texts_len t entries) ≤ length bytes
  pub most : length bytes ≤ most_len t (length entries) (texts_len t entries)

-- how many bytes the text of an item has, by what C hands in
abbrev pub item_len : ItemType → BtreeItem → ℕ
item_len U32 item = 0
item_len U64 item = 0
item_len I64 item = 0
item_len Text item = item.len
item_len Bytes item = item.len
item_len Empty item = 0

abbrev pub items_len : MapType → List BtreeEntry → ℕ
items_len t [] = 0
items_len t (e ∷ es) = item_len t.key e.key + item_len t.value e.value + items_len t es

-- how many the first texts of a column have, as many as these: they stand between the first offset and the one after the last
abbrev pub column_len : ItemType → BtreeColumn → ℕ → ℕ
column_len U32 c n = 0
column_len U64 c n = 0
column_len I64 c n = 0
column_len Text c n = offset c n - offset c 0
column_len Bytes c n = offset c n - offset c 0
column_len Empty c n = 0

abbrev pub columns_len : MapType → BtreeColumn → BtreeColumn → ℕ → ℕ
columns_len t keys values n = column_len t.key keys n + column_len t.value values n

-- how many the whole buffer of a column has, if it is one of texts
abbrev pub buffer_len : ItemType → BtreeColumn → ℕ
buffer_len U32 c = 0
buffer_len U64 c = 0
buffer_len I64 c = 0
buffer_len Text c = length c.buf.now
buffer_len Bytes c = length c.buf.now
buffer_len Empty c = 0

abbrev pub buffers_len : MapType → BtreeColumn → BtreeColumn → ℕ
buffers_len t keys values = buffer_len t.key keys + buffer_len t.value values
