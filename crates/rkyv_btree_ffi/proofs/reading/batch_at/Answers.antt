-- Each type of keys has its own call.
use Rattle.rkyv_btree_ffi.specs.MapTypes.{typed}
use Rattle.rkyv_btree_ffi.proofs.Types.{batches}
use Rattle.rkyv_btree_ffi.proofs.Types.{with_key}
use Rattle.rkyv_btree_ffi.specs.declared.map_type.ItemType.TheVariants.{U32, U64, I64, Text, Bytes, Empty}
use Rattle.rkyv_btree_ffi.proofs.reading.batch_at.Goals as goal

pub batch_with-requires : goal.batch_with-requires
batch_with-requires c = rw (with_key c.args.map_type U32 c.in-U32.is) at c.requires

pub returns-in-U32 : goal.returns-in-U32
returns-in-U32 c = rw (with_key c.args.map_type U32 c.in-U32.is) (record { batch = batches (typed U32 c.args.map_type.value) _ _ _ _ c.batch_with.result c.batch_with.ensures.room c.batch_with.ensures.shown c.batch_with.ensures.last; place = c.batch_with.ensures.place; none = c.batch_with.ensures.none })

pub batch_with-requires-in-U64 : goal.batch_with-requires-in-U64
batch_with-requires-in-U64 c = rw (with_key c.args.map_type U64 c.in-U64.is) at c.requires

pub returns-in-U64 : goal.returns-in-U64
returns-in-U64 c = rw (with_key c.args.map_type U64 c.in-U64.is) (record { batch = batches (typed U64 c.args.map_type.value) _ _ _ _ c.batch_with-in-U64.result c.batch_with-in-U64.ensures.room c.batch_with-in-U64.ensures.shown c.batch_with-in-U64.ensures.last; place = c.batch_with-in-U64.ensures.place; none = c.batch_with-in-U64.ensures.none })

pub batch_with-requires-in-I64 : goal.batch_with-requires-in-I64
batch_with-requires-in-I64 c = rw (with_key c.args.map_type I64 c.in-I64.is) at c.requires

pub returns-in-I64 : goal.returns-in-I64
returns-in-I64 c = rw (with_key c.args.map_type I64 c.in-I64.is) (record { batch = batches (typed I64 c.args.map_type.value) _ _ _ _ c.batch_with-in-I64.result c.batch_with-in-I64.ensures.room c.batch_with-in-I64.ensures.shown c.batch_with-in-I64.ensures.last; place = c.batch_with-in-I64.ensures.place; none = c.batch_with-in-I64.ensures.none })

pub batch_with-requires-in-Text : goal.batch_with-requires-in-Text
batch_with-requires-in-Text c = rw (with_key c.args.map_type Text c.in-Text.is) at c.requires

pub returns-in-Text : goal.returns-in-Text
returns-in-Text c = rw (with_key c.args.map_type Text c.in-Text.is) (record { batch = batches (typed Text c.args.map_type.value) _ _ _ _ c.batch_with-in-Text.result c.batch_with-in-Text.ensures.room c.batch_with-in-Text.ensures.shown c.batch_with-in-Text.ensures.last; place = c.batch_with-in-Text.ensures.place; none = c.batch_with-in-Text.ensures.none })

pub batch_with-requires-in-Bytes : goal.batch_with-requires-in-Bytes
batch_with-requires-in-Bytes c = rw (with_key c.args.map_type Bytes c.in-Bytes.is) at c.requires

pub returns-in-Bytes : goal.returns-in-Bytes
returns-in-Bytes c = rw (with_key c.args.map_type Bytes c.in-Bytes.is) (record { batch = batches (typed Bytes c.args.map_type.value) _ _ _ _ c.batch_with-in-Bytes.result c.batch_with-in-Bytes.ensures.room c.batch_with-in-Bytes.ensures.shown c.batch_with-in-Bytes.ensures.last; place = c.batch_with-in-Bytes.ensures.place; none = c.batch_with-in-Bytes.ensures.none })

pub batch_with-requires-in-Empty : goal.batch_with-requires-in-Empty
batch_with-requires-in-Empty c = rw (with_key c.args.map_type Empty c.in-Empty.is) at c.requires

pub returns-in-Empty : goal.returns-in-Empty
returns-in-Empty c = rw (with_key c.args.map_type Empty c.in-Empty.is) (record { batch = batches (typed Empty c.args.map_type.value) _ _ _ _ c.batch_with-in-Empty.result c.batch_with-in-Empty.ensures.room c.batch_with-in-Empty.ensures.shown c.batch_with-in-Empty.ensures.last; place = c.batch_with-in-Empty.ensures.place; none = c.batch_with-in-Empty.ensures.none })
