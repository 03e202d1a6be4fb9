-- Each type of values has its own call.
use Rattle.rkyv_btree_ffi.proofs.opening.count_with.Goals as goal

pub count-requires : goal.count-requires
count-requires g c = rw c.in-U32.is at c.requires

pub returns-in-U32 : goal.returns-in-U32
returns-in-U32 g c = rw c.in-U32.is (c.count.ensures)

pub count-requires-in-U64 : goal.count-requires-in-U64
count-requires-in-U64 g c = rw c.in-U64.is at c.requires

pub returns-in-U64 : goal.returns-in-U64
returns-in-U64 g c = rw c.in-U64.is (c.count-in-U64.ensures)

pub count-requires-in-I64 : goal.count-requires-in-I64
count-requires-in-I64 g c = rw c.in-I64.is at c.requires

pub returns-in-I64 : goal.returns-in-I64
returns-in-I64 g c = rw c.in-I64.is (c.count-in-I64.ensures)

pub count-requires-in-Text : goal.count-requires-in-Text
count-requires-in-Text g c = rw c.in-Text.is at c.requires

pub returns-in-Text : goal.returns-in-Text
returns-in-Text g c = rw c.in-Text.is (c.count-in-Text.ensures)

pub count-requires-in-Bytes : goal.count-requires-in-Bytes
count-requires-in-Bytes g c = rw c.in-Bytes.is at c.requires

pub returns-in-Bytes : goal.returns-in-Bytes
returns-in-Bytes g c = rw c.in-Bytes.is (c.count-in-Bytes.ensures)

pub count-requires-in-Empty : goal.count-requires-in-Empty
count-requires-in-Empty g c = rw c.in-Empty.is at c.requires

pub returns-in-Empty : goal.returns-in-Empty
returns-in-Empty g c = rw c.in-Empty.is (c.count-in-Empty.ensures)
