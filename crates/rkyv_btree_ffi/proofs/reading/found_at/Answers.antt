-- Each type of keys has its own call.
use Rattle.std.proofs.Common.{refl}
use Rattle.rkyv_btree_ffi.specs.Entries.{comparison_at}
use Rattle.rkyv_btree_ffi.specs.MapTypes.{typed}
use Rattle.rkyv_btree_ffi.proofs.Types.{finds}
use Rattle.rkyv_btree_ffi.proofs.Types.{with_key}
use Rattle.rkyv_btree_ffi.specs.declared.map_type.ItemType.TheVariants.{U32, U64, I64, Text, Bytes, Empty}
use Rattle.rkyv_btree_ffi.proofs.reading.found_at.Goals as goal

pub found_with-requires : goal.found_with-requires
found_with-requires c = rw (with_key c.args.map_type U32 c.in-U32.is) at c.requires

pub returns-in-U32 : goal.returns-in-U32
returns-in-U32 c = rw (with_key c.args.map_type U32 c.in-U32.is) (finds (typed U32 c.args.map_type.value) _ _ c.found_with.result (c.found_with.ensures (comparison_at U32) (λ n b at. refl)))

pub found_with-requires-in-U64 : goal.found_with-requires-in-U64
found_with-requires-in-U64 c = rw (with_key c.args.map_type U64 c.in-U64.is) at c.requires

pub returns-in-U64 : goal.returns-in-U64
returns-in-U64 c = rw (with_key c.args.map_type U64 c.in-U64.is) (finds (typed U64 c.args.map_type.value) _ _ c.found_with-in-U64.result (c.found_with-in-U64.ensures (comparison_at U64) (λ n b at. refl)))

pub found_with-requires-in-I64 : goal.found_with-requires-in-I64
found_with-requires-in-I64 c = rw (with_key c.args.map_type I64 c.in-I64.is) at c.requires

pub returns-in-I64 : goal.returns-in-I64
returns-in-I64 c = rw (with_key c.args.map_type I64 c.in-I64.is) (finds (typed I64 c.args.map_type.value) _ _ c.found_with-in-I64.result (c.found_with-in-I64.ensures (comparison_at I64) (λ n b at. refl)))

pub found_with-requires-in-Text : goal.found_with-requires-in-Text
found_with-requires-in-Text c = rw (with_key c.args.map_type Text c.in-Text.is) at c.requires

pub returns-in-Text : goal.returns-in-Text
returns-in-Text c = rw (with_key c.args.map_type Text c.in-Text.is) (finds (typed Text c.args.map_type.value) _ _ c.found_with-in-Text.result (c.found_with-in-Text.ensures (comparison_at Text) (λ n b at. refl)))

pub found_with-requires-in-Bytes : goal.found_with-requires-in-Bytes
found_with-requires-in-Bytes c = rw (with_key c.args.map_type Bytes c.in-Bytes.is) at c.requires

pub returns-in-Bytes : goal.returns-in-Bytes
returns-in-Bytes c = rw (with_key c.args.map_type Bytes c.in-Bytes.is) (finds (typed Bytes c.args.map_type.value) _ _ c.found_with-in-Bytes.result (c.found_with-in-Bytes.ensures (comparison_at Bytes) (λ n b at. refl)))

pub found_with-requires-in-Empty : goal.found_with-requires-in-Empty
found_with-requires-in-Empty c = rw (with_key c.args.map_type Empty c.in-Empty.is) at c.requires

pub returns-in-Empty : goal.returns-in-Empty
returns-in-Empty c = rw (with_key c.args.map_type Empty c.in-Empty.is) (finds (typed Empty c.args.map_type.value) _ _ c.found_with-in-Empty.result (c.found_with-in-Empty.ensures (comparison_at Empty) (λ n b at. refl)))
