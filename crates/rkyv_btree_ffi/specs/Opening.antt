-- What opening a whole archive for C gives.
use Rattle.std.specs.Prelude.{◌≡◌, ℕ, IsTrue, List, Result, Ok, Err, Some}
use Rattle.rkyv_btree_format.specs.Increasing.{Increasing as AreIncreasing}
use Rattle.rkyv_btree_portable.specs.Kind.{Kind}
use Rattle.rkyv_btree_verify.specs.Map.{map_kind}
use Rattle.rkyv_btree_format.specs.Read.{read_map}
use Rattle.rkyv_btree_portable.specs.declared.refusal.Refusal.{Refusal}
use Rattle.rkyv_btree_verify.specs.Refusals.{RefusesMap}
use Rattle.rkyv_btree_portable.specs.Views.{stands}
use Rattle.rkyv_btree_format.specs.OwnBytes.{IsArchiveOf, own_at}
use Rattle.rkyv_btree_strict.specs.Strict.{RefusesStrict}
use Rattle.rkyv_btree_convert.specs.Whole.{IsUnopened}
use Rattle.rkyv_btree_ffi.specs.Codes.{refusal_for}
use Rattle.rkyv_btree_ffi.specs.MapTypes.{key_kind, value_kind, type_of}
use Rattle.rkyv_btree_ffi.specs.declared.codes.BtreeRefusal.{BtreeRefusal}
use Rattle.rkyv_btree_ffi.specs.declared.map_type.MapType.{MapType}
use Rattle.rkyv_btree_ffi.specs.declared.order.Order.{Order}
use Rattle.rkyv_btree_ffi.specs.declared.order.Order.TheVariants.{Any, Increasing}
use Rattle.rkyv_btree_ffi.specs.declared.handle.BtreeMap.{BtreeMap}
use Rattle.rkyv_btree_ffi.specs.declared.handle.BtreeEdit.{BtreeEdit}

module _ (K V : Kind) (b : List ℕ) where
  -- a map of these keys and values was found at the position of the last eight bytes
  pub record IsFoundMap (at : ℕ) : Type 0 where
    pub position : at ≡ own_at (map_kind K V 5) b
    pub stands : IsTrue (stands (map_kind K V 5) b at)
    pub archive : IsArchiveOf (map_kind K V 5) b (read_map K V 5 b at)

  -- the bytes are opened exactly if they are an archive of such a map, or refused for a cause
  abbrev pub OpensMap : Result ℕ Refusal → Type 0
  OpensMap (Ok at) = IsFoundMap at
  OpensMap (Err e) = IsUnopened (map_kind K V 5) (RefusesMap K V 5) b e
      × ((m : List (K.Value × V.Value)) → IsArchiveOf (map_kind K V 5) b m → ⊥)

  -- the same, and its keys increase
  abbrev pub OpensStrictMap : Result ℕ Refusal → Type 0
  OpensStrictMap (Ok at) = IsFoundMap at × AreIncreasing K.order (read_map K V 5 b at)
  OpensStrictMap (Err e) = IsUnopened (map_kind K V 5) (RefusesStrict K V 5) b e
      × ((m : List (K.Value × V.Value)) → IsArchiveOf (map_kind K V 5) b m → AreIncreasing K.order m → ⊥)

module _ (t : MapType) (b : List ℕ) where
  -- the same of maps of a type
  abbrev pub Opens : Result ℕ Refusal → Type 0
  Opens found = OpensMap (key_kind t) (value_kind t) b found

  abbrev pub OpensStrict : Result ℕ Refusal → Type 0
  OpensStrict found = OpensStrictMap (key_kind t) (value_kind t) b found

  -- the same of keys in an order
  abbrev pub OpensAs : Order → Result ℕ Refusal → Type 0
  OpensAs Any found = Opens found
  OpensAs Increasing found = OpensStrict found

  -- C has an open map where one was found, and else a closed map and the cause
  abbrev pub IsOpened : Result ℕ Refusal → BtreeMap → BtreeRefusal → ℕ → Type 0
  IsOpened (Ok at) map why code = (code ≡ 0) × (type_of map.map_type ≡ Some t) × (map.buf.now ≡ b) × (map.pos ≡ at)
  IsOpened (Err e) map why code = (code ≡ why.code) × (why ≡ refusal_for e) × (map.map_type ≡ 0)

  -- the same of a map whose values are overwritten; the buffer is as it was
  abbrev pub IsOpenedEdit : Result ℕ Refusal → BtreeEdit → BtreeRefusal → ℕ → Type 0
  IsOpenedEdit (Ok at) map why code = (code ≡ 0) × (type_of map.map_type ≡ Some t) × (map.buf.now ≡ b) × (map.pos ≡ at)
  IsOpenedEdit (Err e) map why code = (code ≡ why.code) × (why ≡ refusal_for e) × (map.map_type ≡ 0) × (map.buf.now ≡ b)
