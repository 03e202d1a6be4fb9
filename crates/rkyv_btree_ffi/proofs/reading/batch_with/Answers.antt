-- Each type of values has its own call.
use Rattle.rkyv_btree_ffi.proofs.reading.batch_with.Goals as goal

pub batch-requires : goal.batch-requires
batch-requires g c = rw c.in-U32.is at c.requires

pub returns-in-U32 : goal.returns-in-U32
returns-in-U32 g c = rw c.in-U32.is (record { room = c.batch.ensures.room; shown = c.batch.ensures.shown; last = c.batch.ensures.last; place = c.batch.ensures.place; none = c.batch.ensures.none })

pub batch-requires-in-U64 : goal.batch-requires-in-U64
batch-requires-in-U64 g c = rw c.in-U64.is at c.requires

pub returns-in-U64 : goal.returns-in-U64
returns-in-U64 g c = rw c.in-U64.is (record { room = c.batch-in-U64.ensures.room; shown = c.batch-in-U64.ensures.shown; last = c.batch-in-U64.ensures.last; place = c.batch-in-U64.ensures.place; none = c.batch-in-U64.ensures.none })

pub batch-requires-in-I64 : goal.batch-requires-in-I64
batch-requires-in-I64 g c = rw c.in-I64.is at c.requires

pub returns-in-I64 : goal.returns-in-I64
returns-in-I64 g c = rw c.in-I64.is (record { room = c.batch-in-I64.ensures.room; shown = c.batch-in-I64.ensures.shown; last = c.batch-in-I64.ensures.last; place = c.batch-in-I64.ensures.place; none = c.batch-in-I64.ensures.none })

pub batch-requires-in-Text : goal.batch-requires-in-Text
batch-requires-in-Text g c = rw c.in-Text.is at c.requires

pub returns-in-Text : goal.returns-in-Text
returns-in-Text g c = rw c.in-Text.is (record { room = c.batch-in-Text.ensures.room; shown = c.batch-in-Text.ensures.shown; last = c.batch-in-Text.ensures.last; place = c.batch-in-Text.ensures.place; none = c.batch-in-Text.ensures.none })

pub batch-requires-in-Bytes : goal.batch-requires-in-Bytes
batch-requires-in-Bytes g c = rw c.in-Bytes.is at c.requires

pub returns-in-Bytes : goal.returns-in-Bytes
returns-in-Bytes g c = rw c.in-Bytes.is (record { room = c.batch-in-Bytes.ensures.room; shown = c.batch-in-Bytes.ensures.shown; last = c.batch-in-Bytes.ensures.last; place = c.batch-in-Bytes.ensures.place; none = c.batch-in-Bytes.ensures.none })

pub batch-requires-in-Empty : goal.batch-requires-in-Empty
batch-requires-in-Empty g c = rw c.in-Empty.is at c.requires

pub returns-in-Empty : goal.returns-in-Empty
returns-in-Empty g c = rw c.in-Empty.is (record { room = c.batch-in-Empty.ensures.room; shown = c.batch-in-Empty.ensures.shown; last = c.batch-in-Empty.ensures.last; place = c.batch-in-Empty.ensures.place; none = c.batch-in-Empty.ensures.none })
