-- The types of keys and values that the program knows by name.
use Rattle.std.specs.Int.{w32, w64}
use Rattle.std.specs.Prelude.{◌<◌, ◌^◌, ℕ, FitsSigned, IsUtf8, List, Vec, string_bytes}
use Rattle.std.specs.declared.alloc.Global.{Global}
use Rattle.rkyv_btree_archive.specs.EntryArchival.{entry_archival}
use Rattle.rkyv_btree_archive.specs.OptionArchival.{option_archival}
use Rattle.rkyv_btree_archive.specs.TupleArchival.{tuple3_archival}
use Rattle.rkyv_btree_portable.specs.Kind.{Kind}
use Rattle.rkyv_btree_portable.specs.Natives.{u8_form, u16_form, u32_form, u64_form, i32_form, i64_form}
use Rattle.rkyv_btree_writer.specs.Archiving.{Archival, Matches, itself, native_archival}
use Rattle.rkyv_btree_writer.specs.BytesArchival.{bytes_archival}
use Rattle.rkyv_btree_writer.specs.TextArchival.{text_archival}
use Rattle.btreekv_items.specs.Bytes.{AreBytes}
use Rattle.btreekv_items.specs.ItemTypes.{name_at, spelling_at}
use Rattle.btreekv_items.specs.Optional.{IsOptional}
use Rattle.btreekv_items.specs.Pairs.{IsPairOf}
use Rattle.btreekv_items.specs.Triples.{IsTripleOf}
use Rattle.btreekv_items.specs.declared.item.BytesStyle.{BytesStyle}
use Rattle.btreekv_items.specs.declared.item_type.ItemType.{ItemType}
use Rattle.btreekv_items.specs.declared.item_type.ItemType.TheVariants as item
use Rattle.btreekv_types.specs.Typed.{Items, items}
use Rattle.btreekv_types.specs.declared.any_type.AnyType.{AnyType}
use Rattle.btreekv_types.specs.declared.any_type.AnyType.TheVariants.{Plain, Optional, Tuple}
use Rattle.btreekv_types.specs.declared.common_type.CommonType.{CommonType}
use Rattle.btreekv_types.specs.declared.common_type.CommonType.TheVariants as common
use Rattle.btreekv_types.specs.declared.option_type.OptionType.TheVariants as option
use Rattle.btreekv_types.specs.declared.plain_type.PlainType.{PlainType}
use Rattle.btreekv_types.specs.declared.plain_type.PlainType.TheVariants as plain
use Rattle.btreekv_types.specs.declared.tuple_type.TupleType.TheVariants as tuple

-- a common type among all that have no parts
abbrev pub plain_of : CommonType → PlainType
plain_of common.U32 = plain.U32
plain_of common.U64 = plain.U64
plain_of common.Text = plain.Text

-- the same type among all types of items
abbrev pub item_of : AnyType → ItemType
item_of (Plain plain.U8) = item.U8
item_of (Plain plain.U16) = item.U16
item_of (Plain plain.U32) = item.U32
item_of (Plain plain.U64) = item.U64
item_of (Plain plain.I32) = item.I32
item_of (Plain plain.I64) = item.I64
item_of (Plain plain.Text) = item.Text
item_of (Plain plain.Bytes) = item.Bytes
item_of (Optional option.U32) = item.OptionU32
item_of (Optional option.U64) = item.OptionU64
item_of (Optional option.I64) = item.OptionI64
item_of (Tuple tuple.PairU32U32) = item.PairU32U32
item_of (Tuple tuple.PairU64U64) = item.PairU64U64
item_of (Tuple tuple.PairU32Text) = item.PairU32Text
item_of (Tuple tuple.TripleU32) = item.TripleU32
item_of (Tuple tuple.TripleU64) = item.TripleU64

-- the name of a type
abbrev pub type_name : AnyType → List ℕ
type_name i = name_at (item_of i)

-- how native values of a type are archived, which values of its kind it has, and their texts
pub record Typing : Type 1 where
  pub Native : Type 0
  pub Resolver : Type 0
  pub archival : Archival Native Resolver
  pub items : BytesStyle → Items archival.kind.Value

abbrev pub typing : {X R : Type 0} (T : Archival X R) → (T.kind.Value → Type 0) → (BytesStyle → T.kind.Value → List ℕ) → Typing
typing {X} {R} T IsValue spelling = record { Native = X; Resolver = R; archival = T; items = λ style. items IsValue (spelling style) }

abbrev pub typing_at : AnyType → Typing
typing_at (Plain plain.U8) = typing (native_archival u8_form) (λ n. n < 2 ^ 8) (spelling_at item.U8)
typing_at (Plain plain.U16) = typing (native_archival u16_form) (λ n. n < 2 ^ 16) (spelling_at item.U16)
typing_at (Plain plain.U32) = typing (native_archival u32_form) (λ n. n < 2 ^ 32) (spelling_at item.U32)
typing_at (Plain plain.U64) = typing (native_archival u64_form) (λ n. n < 2 ^ 64) (spelling_at item.U64)
typing_at (Plain plain.I32) = typing (native_archival i32_form) (FitsSigned w32) (spelling_at item.I32)
typing_at (Plain plain.I64) = typing (native_archival i64_form) (FitsSigned w64) (spelling_at item.I64)
typing_at (Plain plain.Text) = typing (text_archival (string_bytes {Z = Global})) IsUtf8 (spelling_at item.Text)
typing_at (Plain plain.Bytes) = typing (bytes_archival (λ (bytes : Vec ℕ Global). bytes.items)) AreBytes (spelling_at item.Bytes)
typing_at (Optional option.U32) = typing (option_archival (native_archival u32_form)) (IsOptional (λ n. n < 2 ^ 32)) (spelling_at item.OptionU32)
typing_at (Optional option.U64) = typing (option_archival (native_archival u64_form)) (IsOptional (λ n. n < 2 ^ 64)) (spelling_at item.OptionU64)
typing_at (Optional option.I64) = typing (option_archival (native_archival i64_form)) (IsOptional (FitsSigned w64)) (spelling_at item.OptionI64)
typing_at (Tuple tuple.PairU32U32) =
    typing (entry_archival (native_archival u32_form) (native_archival u32_form) (λ e. e)) (IsPairOf (λ n. n < 2 ^ 32) (λ n. n < 2 ^ 32)) (spelling_at item.PairU32U32)
typing_at (Tuple tuple.PairU64U64) =
    typing (entry_archival (native_archival u64_form) (native_archival u64_form) (λ e. e)) (IsPairOf (λ n. n < 2 ^ 64) (λ n. n < 2 ^ 64)) (spelling_at item.PairU64U64)
typing_at (Tuple tuple.PairU32Text) =
    typing (entry_archival (native_archival u32_form) (text_archival (string_bytes {Z = Global})) (λ e. e)) (IsPairOf (λ n. n < 2 ^ 32) IsUtf8) (spelling_at item.PairU32Text)
typing_at (Tuple tuple.TripleU32) =
    typing (tuple3_archival (native_archival u32_form) (native_archival u32_form) (native_archival u32_form)) (IsTripleOf (λ n. n < 2 ^ 32) (λ n. n < 2 ^ 32) (λ n. n < 2 ^ 32)) (spelling_at item.TripleU32)
typing_at (Tuple tuple.TripleU64) =
    typing (tuple3_archival (native_archival u64_form) (native_archival u64_form) (native_archival u64_form)) (IsTripleOf (λ n. n < 2 ^ 64) (λ n. n < 2 ^ 64) (λ n. n < 2 ^ 64)) (spelling_at item.TripleU64)

abbrev pub archival_at : (i : AnyType) → Archival (typing_at i).Native (typing_at i).Resolver
archival_at i = (typing_at i).archival

abbrev pub kind_at : AnyType → Kind
kind_at i = (archival_at i).kind

-- the bytes of native values are those of the kind
abbrev pub itself_at : (i : AnyType) → Matches (archival_at i).kind (kind_at i)
itself_at i = itself (kind_at i)

abbrev pub items_at : (i : AnyType) → BytesStyle → Items (kind_at i).Value
items_at i = (typing_at i).items
