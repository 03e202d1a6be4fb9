-- Each type of values has its own call.
use Rattle.rkyv_btree_ffi.proofs.reading.first_with.Goals as goal

pub first-requires : goal.first-requires
first-requires g c = rw c.in-U32.is at c.requires

pub returns-in-U32 : goal.returns-in-U32
returns-in-U32 g c = rw c.in-U32.is (record { place = c.first.ensures.place; all = c.first.ensures.all })

pub first-requires-in-U64 : goal.first-requires-in-U64
first-requires-in-U64 g c = rw c.in-U64.is at c.requires

pub returns-in-U64 : goal.returns-in-U64
returns-in-U64 g c = rw c.in-U64.is (record { place = c.first-in-U64.ensures.place; all = c.first-in-U64.ensures.all })

pub first-requires-in-I64 : goal.first-requires-in-I64
first-requires-in-I64 g c = rw c.in-I64.is at c.requires

pub returns-in-I64 : goal.returns-in-I64
returns-in-I64 g c = rw c.in-I64.is (record { place = c.first-in-I64.ensures.place; all = c.first-in-I64.ensures.all })

pub first-requires-in-Text : goal.first-requires-in-Text
first-requires-in-Text g c = rw c.in-Text.is at c.requires

pub returns-in-Text : goal.returns-in-Text
returns-in-Text g c = rw c.in-Text.is (record { place = c.first-in-Text.ensures.place; all = c.first-in-Text.ensures.all })

pub first-requires-in-Bytes : goal.first-requires-in-Bytes
first-requires-in-Bytes g c = rw c.in-Bytes.is at c.requires

pub returns-in-Bytes : goal.returns-in-Bytes
returns-in-Bytes g c = rw c.in-Bytes.is (record { place = c.first-in-Bytes.ensures.place; all = c.first-in-Bytes.ensures.all })

pub first-requires-in-Empty : goal.first-requires-in-Empty
first-requires-in-Empty g c = rw c.in-Empty.is at c.requires

pub returns-in-Empty : goal.returns-in-Empty
returns-in-Empty g c = rw c.in-Empty.is (record { place = c.first-in-Empty.ensures.place; all = c.first-in-Empty.ensures.all })
