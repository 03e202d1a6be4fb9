-- Each type of keys has its own call.
use Rattle.rkyv_btree_ffi.proofs.Types.{with_key}
use Rattle.rkyv_btree_ffi.specs.declared.map_type.ItemType.TheVariants.{U32, U64, I64, Text, Bytes, Empty}
use Rattle.rkyv_btree_ffi.proofs.opening.count_at.Goals as goal

pub count_with-requires : goal.count_with-requires
count_with-requires c = rw (with_key c.args.map_type U32 c.in-U32.is) at c.requires

pub returns-in-U32 : goal.returns-in-U32
returns-in-U32 c = rw (with_key c.args.map_type U32 c.in-U32.is) (c.count_with.ensures)

pub count_with-requires-in-U64 : goal.count_with-requires-in-U64
count_with-requires-in-U64 c = rw (with_key c.args.map_type U64 c.in-U64.is) at c.requires

pub returns-in-U64 : goal.returns-in-U64
returns-in-U64 c = rw (with_key c.args.map_type U64 c.in-U64.is) (c.count_with-in-U64.ensures)

pub count_with-requires-in-I64 : goal.count_with-requires-in-I64
count_with-requires-in-I64 c = rw (with_key c.args.map_type I64 c.in-I64.is) at c.requires

pub returns-in-I64 : goal.returns-in-I64
returns-in-I64 c = rw (with_key c.args.map_type I64 c.in-I64.is) (c.count_with-in-I64.ensures)

pub count_with-requires-in-Text : goal.count_with-requires-in-Text
count_with-requires-in-Text c = rw (with_key c.args.map_type Text c.in-Text.is) at c.requires

pub returns-in-Text : goal.returns-in-Text
returns-in-Text c = rw (with_key c.args.map_type Text c.in-Text.is) (c.count_with-in-Text.ensures)

pub count_with-requires-in-Bytes : goal.count_with-requires-in-Bytes
count_with-requires-in-Bytes c = rw (with_key c.args.map_type Bytes c.in-Bytes.is) at c.requires

pub returns-in-Bytes : goal.returns-in-Bytes
returns-in-Bytes c = rw (with_key c.args.map_type Bytes c.in-Bytes.is) (c.count_with-in-Bytes.ensures)

pub count_with-requires-in-Empty : goal.count_with-requires-in-Empty
count_with-requires-in-Empty c = rw (with_key c.args.map_type Empty c.in-Empty.is) at c.requires

pub returns-in-Empty : goal.returns-in-Empty
returns-in-Empty c = rw (with_key c.args.map_type Empty c.in-Empty.is) (c.count_with-in-Empty.ensures)
