-- Types of keys and of values: their names, and the kinds, the values and the texts of these.
use Rattle.std.specs.Char.{IsScalar, encode_utf8}
use Rattle.std.specs.Fmt.{decimal, signed_decimal}
use Rattle.std.specs.Prelude.{ℕ, List, []}
use Rattle.btreekv_items.specs.Bytes.{bytes_text}
use Rattle.btreekv_items.specs.Optional.{optional_text}
use Rattle.btreekv_items.specs.Pairs.{pair_text}
use Rattle.btreekv_items.specs.Triples.{triple_text}
use Rattle.btreekv_items.specs.Words.{bool_text}
use Rattle.btreekv_items.specs.declared.item.BytesStyle.{BytesStyle}
use Rattle.btreekv_items.specs.declared.item_type.ItemType.{ItemType}
use Rattle.btreekv_items.specs.declared.item_type.ItemType.TheVariants.{U8, U16, U32, U64, U128, I8, I16, I32, I64, I128, Bool, Char, Text, Bytes, Empty, OptionU32, OptionU64, OptionI64, PairU32U32, PairU64U64, PairU32Text, TripleU32, TripleU64}
use Rattle.rkyv_btree_compound.specs.Option.{option_kind}
use Rattle.rkyv_btree_compound.specs.Tuples.{tuple3_kind}
use Rattle.rkyv_btree_compound.specs.Wide.{i128_kind, u128_kind}
use Rattle.rkyv_btree_portable.specs.ByteStrings.{bytes_kind}
use Rattle.rkyv_btree_portable.specs.Entry.{entry_kind}
use Rattle.rkyv_btree_portable.specs.Kind.{Kind}
use Rattle.rkyv_btree_portable.specs.Scalars.{u8_kind, u16_kind, u32_kind, u64_kind, i8_kind, i16_kind, i32_kind, i64_kind, bool_kind, char_kind, unit_kind}
use Rattle.rkyv_btree_portable.specs.Text.{text_kind}
use Rattle.rkyv_btree_typed.specs.TypeNames.{TypeTerm, name_of, u8, u16, u32, u64, u128, i8, i16, i32, i64, i128, bool, char, text, byte_string, unit_type, option, pair, triple}

-- the archived type as a typed file names it
abbrev pub term_at : ItemType → TypeTerm
term_at U8 = u8
term_at U16 = u16
term_at U32 = u32
term_at U64 = u64
term_at U128 = u128
term_at I8 = i8
term_at I16 = i16
term_at I32 = i32
term_at I64 = i64
term_at I128 = i128
term_at Bool = bool
term_at Char = char
term_at Text = text
term_at Bytes = byte_string
term_at Empty = unit_type
term_at OptionU32 = option u32
term_at OptionU64 = option u64
term_at OptionI64 = option i64
term_at PairU32U32 = pair u32 u32
term_at PairU64U64 = pair u64 u64
term_at PairU32Text = pair u32 text
term_at TripleU32 = triple u32 u32 u32
term_at TripleU64 = triple u64 u64 u64

abbrev pub name_at : ItemType → List ℕ
name_at t = name_of (term_at t)

abbrev pub kind_at : ItemType → Kind
kind_at U8 = u8_kind
kind_at U16 = u16_kind
kind_at U32 = u32_kind
kind_at U64 = u64_kind
kind_at U128 = u128_kind
kind_at I8 = i8_kind
kind_at I16 = i16_kind
kind_at I32 = i32_kind
kind_at I64 = i64_kind
kind_at I128 = i128_kind
kind_at Bool = bool_kind
kind_at Char = char_kind
kind_at Text = text_kind
kind_at Bytes = bytes_kind
kind_at Empty = unit_kind
kind_at OptionU32 = option_kind u32_kind
kind_at OptionU64 = option_kind u64_kind
kind_at OptionI64 = option_kind i64_kind
kind_at PairU32U32 = entry_kind u32_kind u32_kind
kind_at PairU64U64 = entry_kind u64_kind u64_kind
kind_at PairU32Text = entry_kind u32_kind text_kind
kind_at TripleU32 = tuple3_kind u32_kind u32_kind u32_kind
kind_at TripleU64 = tuple3_kind u64_kind u64_kind u64_kind

-- the text of a value
abbrev pub spelling_at : (t : ItemType) → BytesStyle → (kind_at t).Value → List ℕ
spelling_at U8 style value = decimal value
spelling_at U16 style value = decimal value
spelling_at U32 style value = decimal value
spelling_at U64 style value = decimal value
spelling_at U128 style value = decimal value
spelling_at I8 style value = signed_decimal value
spelling_at I16 style value = signed_decimal value
spelling_at I32 style value = signed_decimal value
spelling_at I64 style value = signed_decimal value
spelling_at I128 style value = signed_decimal value
spelling_at Bool style value = bool_text value
spelling_at Char style value = encode_utf8 value
spelling_at Text style value = value
spelling_at Bytes style value = bytes_text style value
spelling_at Empty style value = []
spelling_at OptionU32 style value = optional_text (λ style n. decimal n) style value
spelling_at OptionU64 style value = optional_text (λ style n. decimal n) style value
spelling_at OptionI64 style value = optional_text (λ style z. signed_decimal z) style value
spelling_at PairU32U32 style value = pair_text (λ style n. decimal n) (λ style n. decimal n) style value
spelling_at PairU64U64 style value = pair_text (λ style n. decimal n) (λ style n. decimal n) style value
spelling_at PairU32Text style value = pair_text (λ style n. decimal n) (λ style text. text) style value
spelling_at TripleU32 style value = triple_text (λ style n. decimal n) (λ style n. decimal n) (λ style n. decimal n) style value
spelling_at TripleU64 style value = triple_text (λ style n. decimal n) (λ style n. decimal n) (λ style n. decimal n) style value
