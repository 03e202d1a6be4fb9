-- Each type of keys has its own call.
use Rattle.rkyv_btree_ffi.proofs.Fits.{all_fit}
use Rattle.rkyv_btree_ffi.proofs.Types.{with_key}
use Rattle.rkyv_btree_ffi.specs.declared.map_type.ItemType.TheVariants.{U32, U64, I64, Text, Bytes, Empty}
use Rattle.rkyv_btree_ffi.proofs.opening.opened_strict_at.Goals as goal

pub opened_strict_with-requires : goal.opened_strict_with-requires
opened_strict_with-requires c = all_fit U32 c.args.map_type.value

pub returns-in-U32 : goal.returns-in-U32
returns-in-U32 c = rw (with_key c.args.map_type U32 c.in-U32.is) (c.opened_strict_with.ensures)

pub opened_strict_with-requires-in-U64 : goal.opened_strict_with-requires-in-U64
opened_strict_with-requires-in-U64 c = all_fit U64 c.args.map_type.value

pub returns-in-U64 : goal.returns-in-U64
returns-in-U64 c = rw (with_key c.args.map_type U64 c.in-U64.is) (c.opened_strict_with-in-U64.ensures)

pub opened_strict_with-requires-in-I64 : goal.opened_strict_with-requires-in-I64
opened_strict_with-requires-in-I64 c = all_fit I64 c.args.map_type.value

pub returns-in-I64 : goal.returns-in-I64
returns-in-I64 c = rw (with_key c.args.map_type I64 c.in-I64.is) (c.opened_strict_with-in-I64.ensures)

pub opened_strict_with-requires-in-Text : goal.opened_strict_with-requires-in-Text
opened_strict_with-requires-in-Text c = all_fit Text c.args.map_type.value

pub returns-in-Text : goal.returns-in-Text
returns-in-Text c = rw (with_key c.args.map_type Text c.in-Text.is) (c.opened_strict_with-in-Text.ensures)

pub opened_strict_with-requires-in-Bytes : goal.opened_strict_with-requires-in-Bytes
opened_strict_with-requires-in-Bytes c = all_fit Bytes c.args.map_type.value

pub returns-in-Bytes : goal.returns-in-Bytes
returns-in-Bytes c = rw (with_key c.args.map_type Bytes c.in-Bytes.is) (c.opened_strict_with-in-Bytes.ensures)

pub opened_strict_with-requires-in-Empty : goal.opened_strict_with-requires-in-Empty
opened_strict_with-requires-in-Empty c = all_fit Empty c.args.map_type.value

pub returns-in-Empty : goal.returns-in-Empty
returns-in-Empty c = rw (with_key c.args.map_type Empty c.in-Empty.is) (c.opened_strict_with-in-Empty.ensures)
