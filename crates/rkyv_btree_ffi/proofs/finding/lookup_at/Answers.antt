-- Each type of keys has its own call.
use Rattle.std.proofs.Common.{refl}
use Rattle.rkyv_btree_ffi.specs.Entries.{comparison_at}
use Rattle.rkyv_btree_ffi.proofs.Fits.{all_fit}
use Rattle.rkyv_btree_ffi.proofs.Types.{with_key}
use Rattle.rkyv_btree_ffi.specs.declared.map_type.ItemType.TheVariants.{U32, U64, I64, Text, Bytes, Empty}
use Rattle.rkyv_btree_ffi.proofs.finding.lookup_at.Goals as goal

pub lookup_with-requires : goal.lookup_with-requires
lookup_with-requires c = all_fit U32 c.args.map_type.value

pub returns-in-U32 : goal.returns-in-U32
returns-in-U32 c = rw (with_key c.args.map_type U32 c.in-U32.is) (c.lookup_with.ensures (comparison_at U32) (λ n b at. refl))

pub lookup_with-requires-in-U64 : goal.lookup_with-requires-in-U64
lookup_with-requires-in-U64 c = all_fit U64 c.args.map_type.value

pub returns-in-U64 : goal.returns-in-U64
returns-in-U64 c = rw (with_key c.args.map_type U64 c.in-U64.is) (c.lookup_with-in-U64.ensures (comparison_at U64) (λ n b at. refl))

pub lookup_with-requires-in-I64 : goal.lookup_with-requires-in-I64
lookup_with-requires-in-I64 c = all_fit I64 c.args.map_type.value

pub returns-in-I64 : goal.returns-in-I64
returns-in-I64 c = rw (with_key c.args.map_type I64 c.in-I64.is) (c.lookup_with-in-I64.ensures (comparison_at I64) (λ n b at. refl))

pub lookup_with-requires-in-Text : goal.lookup_with-requires-in-Text
lookup_with-requires-in-Text c = all_fit Text c.args.map_type.value

pub returns-in-Text : goal.returns-in-Text
returns-in-Text c = rw (with_key c.args.map_type Text c.in-Text.is) (c.lookup_with-in-Text.ensures (comparison_at Text) (λ n b at. refl))

pub lookup_with-requires-in-Bytes : goal.lookup_with-requires-in-Bytes
lookup_with-requires-in-Bytes c = all_fit Bytes c.args.map_type.value

pub returns-in-Bytes : goal.returns-in-Bytes
returns-in-Bytes c = rw (with_key c.args.map_type Bytes c.in-Bytes.is) (c.lookup_with-in-Bytes.ensures (comparison_at Bytes) (λ n b at. refl))

pub lookup_with-requires-in-Empty : goal.lookup_with-requires-in-Empty
lookup_with-requires-in-Empty c = all_fit Empty c.args.map_type.value

pub returns-in-Empty : goal.returns-in-Empty
returns-in-Empty c = rw (with_key c.args.map_type Empty c.in-Empty.is) (c.lookup_with-in-Empty.ensures (comparison_at Empty) (λ n b at. refl))
