-- Each type of values has its own call.
use Rattle.rkyv_btree_ffi.proofs.reading.sought_with.Goals as goal

pub sought-requires : goal.sought-requires
sought-requires g c = rw c.in-U32.is at c.requires

pub returns-in-U32 : goal.returns-in-U32
returns-in-U32 g c = rw c.in-U32.is (record { place = c.sought.ensures.place; run = c.sought.ensures.run; within = c.sought.ensures.within })

pub sought-requires-in-U64 : goal.sought-requires-in-U64
sought-requires-in-U64 g c = rw c.in-U64.is at c.requires

pub returns-in-U64 : goal.returns-in-U64
returns-in-U64 g c = rw c.in-U64.is (record { place = c.sought-in-U64.ensures.place; run = c.sought-in-U64.ensures.run; within = c.sought-in-U64.ensures.within })

pub sought-requires-in-I64 : goal.sought-requires-in-I64
sought-requires-in-I64 g c = rw c.in-I64.is at c.requires

pub returns-in-I64 : goal.returns-in-I64
returns-in-I64 g c = rw c.in-I64.is (record { place = c.sought-in-I64.ensures.place; run = c.sought-in-I64.ensures.run; within = c.sought-in-I64.ensures.within })

pub sought-requires-in-Text : goal.sought-requires-in-Text
sought-requires-in-Text g c = rw c.in-Text.is at c.requires

pub returns-in-Text : goal.returns-in-Text
returns-in-Text g c = rw c.in-Text.is (record { place = c.sought-in-Text.ensures.place; run = c.sought-in-Text.ensures.run; within = c.sought-in-Text.ensures.within })

pub sought-requires-in-Bytes : goal.sought-requires-in-Bytes
sought-requires-in-Bytes g c = rw c.in-Bytes.is at c.requires

pub returns-in-Bytes : goal.returns-in-Bytes
returns-in-Bytes g c = rw c.in-Bytes.is (record { place = c.sought-in-Bytes.ensures.place; run = c.sought-in-Bytes.ensures.run; within = c.sought-in-Bytes.ensures.within })

pub sought-requires-in-Empty : goal.sought-requires-in-Empty
sought-requires-in-Empty g c = rw c.in-Empty.is at c.requires

pub returns-in-Empty : goal.returns-in-Empty
returns-in-Empty g c = rw c.in-Empty.is (record { place = c.sought-in-Empty.ensures.place; run = c.sought-in-Empty.ensures.run; within = c.sought-in-Empty.ensures.within })
