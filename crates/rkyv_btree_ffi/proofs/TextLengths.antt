-- How many bytes texts have: those of entries that C hands in, and those of columns.
use Rattle.std.proofs.Common.{◌≡◌, ℕ, zero, suc, ◌+◌, ◌-◌, ◌≤◌, List, [], ◌∷◌, length, map, get_or, refl, sym, ap, subst, arith}
use Rattle.std.specs.List.{All, range_with_len}
use Rattle.std.proofs.lemmas.List.FromFn.{get_or-range_with_len, length-range_with_len}
use Rattle.std.proofs.lemmas.List.Elements.{All-head, All-tail}
use Rattle.rkyv_btree_portable.specs.laws.Standing.{length-bytes_at}
use Rattle.rkyv_btree_ffi.specs.Building.{IsEntryOf, given, IsRowOf, row}
use Rattle.rkyv_btree_ffi.specs.Columns.{IsCell, HasBytes, bytes_in, cell_value, offset}
use Rattle.rkyv_btree_ffi.specs.Items.{IsOfType, item_value}
use Rattle.rkyv_btree_ffi.specs.Lengths.{text_len, texts_len, item_len, items_len, column_len, columns_len, buffer_len, buffers_len}
use Rattle.rkyv_btree_ffi.specs.declared.column.BtreeColumn.{BtreeColumn}
use Rattle.rkyv_btree_ffi.specs.declared.item.BtreeEntry.{BtreeEntry}
use Rattle.rkyv_btree_ffi.specs.declared.item.BtreeItem.{BtreeItem}
use Rattle.rkyv_btree_ffi.specs.declared.map_type.ItemType.{ItemType}
use Rattle.rkyv_btree_ffi.specs.declared.map_type.ItemType.TheVariants.{U32, U64, I64, Text, Bytes, Empty}
use Rattle.rkyv_btree_ffi.specs.declared.map_type.MapType.{MapType}

-- an item of a type has as many bytes of text as it says
item_text : (i : ItemType) (texts : List ℕ) (item : BtreeItem) → IsOfType i texts item → text_len i (item_value i texts item) ≡ item_len i item
item_text U32 texts item h = refl
item_text U64 texts item h = refl
item_text I64 texts item h = refl
item_text Text texts item h = length-bytes_at texts item.start item.len h.0
item_text Bytes texts item h = length-bytes_at texts item.start item.len h
item_text Empty texts item h = refl

-- and so have entries
pub items_texts : (t : MapType) (texts : List ℕ) (es : List BtreeEntry) → All (IsEntryOf t texts) es → texts_len t (map (given t texts) es) ≡ items_len t es
items_texts t texts [] h = refl
items_texts t texts (e ∷ es) h =
    let first = All-head (IsEntryOf t texts) e es h in
    omega (arith, item_text t.key texts e.key first.0, item_text t.value texts e.value first.1, items_texts t texts es (All-tail (IsEntryOf t texts) e es h))

-- how many bytes the texts of a column have from an index on, as many as these
abbrev span : ItemType → BtreeColumn → ℕ → ℕ → ℕ
span U32 c k n = 0
span U64 c k n = 0
span I64 c k n = 0
span Text c k n = offset c (k + n) - offset c k
span Bytes c k n = offset c (k + n) - offset c k
span Empty c k n = 0

-- where a text begins that is none, or that is followed by others, none before it ends
abbrev Ordered : ItemType → BtreeColumn → ℕ → ℕ → Type 0
Ordered U32 c k n = Unit {0}
Ordered U64 c k n = Unit {0}
Ordered I64 c k n = Unit {0}
Ordered Text c k n = offset c k ≤ offset c (k + n)
Ordered Bytes c k n = offset c k ≤ offset c (k + n)
Ordered Empty c k n = Unit {0}

bytes_ordered : (c : BtreeColumn) (k n : ℕ) → HasBytes c k → offset c (k + 1) ≤ offset c (k + 1 + n) → offset c k ≤ offset c (k + suc n)
bytes_ordered c k n h later = let at : k + 1 + n ≡ k + suc n = omega arith in rw (sym at) (omega (arith, h.order, later))

bytes_span : (c : BtreeColumn) (k n : ℕ) → HasBytes c k → offset c (k + 1) ≤ offset c (k + 1 + n) → length (bytes_in c k) + (offset c (k + 1 + n) - offset c (k + 1)) ≡ offset c (k + suc n) - offset c k
bytes_span c k n h later =
    let at : k + 1 + n ≡ k + suc n = omega arith in
    let long = length-bytes_at c.buf.now (offset c k) (offset c (k + 1) - offset c k) (omega (arith, h.order, h.inside)) in
    rw (sym at) (omega (arith, h.order, later, long))

ordered_step : (i : ItemType) (c : BtreeColumn) (k n : ℕ) → IsCell i c k → Ordered i c (k + 1) n → Ordered i c k (suc n)
ordered_step U32 c k n h later = tt
ordered_step U64 c k n h later = tt
ordered_step I64 c k n h later = tt
ordered_step Text c k n h later = bytes_ordered c k n h.bytes later
ordered_step Bytes c k n h later = bytes_ordered c k n h later
ordered_step Empty c k n h later = tt

span_step : (i : ItemType) (c : BtreeColumn) (k n : ℕ) → IsCell i c k → Ordered i c (k + 1) n → text_len i (cell_value i c k) + span i c (k + 1) n ≡ span i c k (suc n)
span_step U32 c k n h later = refl
span_step U64 c k n h later = refl
span_step I64 c k n h later = refl
span_step Text c k n h later = bytes_span c k n h.bytes later
span_step Bytes c k n h later = bytes_span c k n h later
span_step Empty c k n h later = refl

no_more : (c : BtreeColumn) (k : ℕ) → offset c (k + 0) ≡ offset c k
no_more c k = let none : k + 0 ≡ k = omega arith in ap (offset c) none

ordered_none : (i : ItemType) (c : BtreeColumn) (k : ℕ) → Ordered i c k 0
ordered_none U32 c k = tt
ordered_none U64 c k = tt
ordered_none I64 c k = tt
ordered_none Text c k = omega (arith, no_more c k)
ordered_none Bytes c k = omega (arith, no_more c k)
ordered_none Empty c k = tt

span_none : (i : ItemType) (c : BtreeColumn) (k : ℕ) → span i c k 0 ≡ 0
span_none U32 c k = refl
span_none U64 c k = refl
span_none I64 c k = refl
span_none Text c k = omega (arith, no_more c k)
span_none Bytes c k = omega (arith, no_more c k)
span_none Empty c k = refl

module _ (t : MapType) (keys values : BtreeColumn) where
  rows_ordered : (k n : ℕ) → All (IsRowOf t keys values) (range_with_len k n) → Ordered t.key keys k n × Ordered t.value values k n
  rows_ordered k zero h = (ordered_none t.key keys k, ordered_none t.value values k)
  rows_ordered k (suc n) h =
      let first = All-head (IsRowOf t keys values) k (range_with_len (k + 1) n) h in
      let later = rows_ordered (k + 1) n (All-tail (IsRowOf t keys values) k (range_with_len (k + 1) n) h) in
      (ordered_step t.key keys k n first.0 later.0, ordered_step t.value values k n first.1 later.1)

  rows_span : (k n : ℕ) → All (IsRowOf t keys values) (range_with_len k n) → texts_len t (map (row t keys values) (range_with_len k n)) ≡ span t.key keys k n + span t.value values k n
  rows_span k zero h = omega (arith, span_none t.key keys k, span_none t.value values k)
  rows_span k (suc n) h =
      let first = All-head (IsRowOf t keys values) k (range_with_len (k + 1) n) h in
      let rest = All-tail (IsRowOf t keys values) k (range_with_len (k + 1) n) h in
      let later = rows_ordered (k + 1) n rest in
      omega (arith, span_step t.key keys k n first.0 later.0, span_step t.value values k n first.1 later.1, rows_span (k + 1) n rest)

  span_all : (i : ItemType) (c : BtreeColumn) (n : ℕ) → span i c 0 n ≡ column_len i c n
  span_all U32 c n = refl
  span_all U64 c n = refl
  span_all I64 c n = refl
  span_all Text c n = let all : 0 + n ≡ n = omega arith in ap (λ m. offset c m - offset c 0) all
  span_all Bytes c n = let all : 0 + n ≡ n = omega arith in ap (λ m. offset c m - offset c 0) all
  span_all Empty c n = refl

  pub rows_texts : (n : ℕ) → All (IsRowOf t keys values) (range_with_len 0 n) → texts_len t (map (row t keys values) (range_with_len 0 n)) ≡ columns_len t keys values n
  rows_texts n h = omega (arith, rows_span 0 n h, span_all t.key keys n, span_all t.value values n)

-- the texts of a column lie in its buffer
bytes_inside : (c : BtreeColumn) (n : ℕ) → HasBytes c n → offset c (suc n) - offset c 0 ≤ length c.buf.now
bytes_inside c n h = let at : n + 1 ≡ suc n = omega arith in rw (sym at) (omega (arith, h.inside))

column_none : (i : ItemType) (c : BtreeColumn) → column_len i c 0 ≤ buffer_len i c
column_none U32 c = omega arith
column_none U64 c = omega arith
column_none I64 c = omega arith
column_none Text c = omega arith
column_none Bytes c = omega arith
column_none Empty c = omega arith

column_inside : (i : ItemType) (c : BtreeColumn) (n : ℕ) → IsCell i c n → column_len i c (suc n) ≤ buffer_len i c
column_inside U32 c n h = omega arith
column_inside U64 c n h = omega arith
column_inside I64 c n h = omega arith
column_inside Text c n h = bytes_inside c n h.bytes
column_inside Bytes c n h = bytes_inside c n h
column_inside Empty c n h = omega arith

pub columns_inside : (t : MapType) (keys values : BtreeColumn) (n : ℕ) → All (IsRowOf t keys values) (range_with_len 0 n) → columns_len t keys values n ≤ buffers_len t keys values
columns_inside t keys values zero h = omega (arith, column_none t.key keys, column_none t.value values)
columns_inside t keys values (suc n) h =
    let at : get_or (range_with_len 0 (suc n)) n 0 ≡ n = omega (arith, get_or-range_with_len 0 (suc n) n 0 (omega arith)) in
    let last = subst (IsRowOf t keys values) at (h n 0 (omega (arith, length-range_with_len 0 (suc n)))) in
    omega (arith, column_inside t.key keys n last.0, column_inside t.value values n last.1)
