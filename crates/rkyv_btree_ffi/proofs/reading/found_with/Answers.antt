-- Each type of values has its own call.
use Rattle.rkyv_btree_ffi.proofs.reading.found_with.Goals as goal

pub found-requires : goal.found-requires
found-requires g c = rw c.in-U32.is at c.requires

pub returns-in-U32 : goal.returns-in-U32
returns-in-U32 g c = rw c.in-U32.is (c.found.ensures)

pub found-requires-in-U64 : goal.found-requires-in-U64
found-requires-in-U64 g c = rw c.in-U64.is at c.requires

pub returns-in-U64 : goal.returns-in-U64
returns-in-U64 g c = rw c.in-U64.is (c.found-in-U64.ensures)

pub found-requires-in-I64 : goal.found-requires-in-I64
found-requires-in-I64 g c = rw c.in-I64.is at c.requires

pub returns-in-I64 : goal.returns-in-I64
returns-in-I64 g c = rw c.in-I64.is (c.found-in-I64.ensures)

pub found-requires-in-Text : goal.found-requires-in-Text
found-requires-in-Text g c = rw c.in-Text.is at c.requires

pub returns-in-Text : goal.returns-in-Text
returns-in-Text g c = rw c.in-Text.is (c.found-in-Text.ensures)

pub found-requires-in-Bytes : goal.found-requires-in-Bytes
found-requires-in-Bytes g c = rw c.in-Bytes.is at c.requires

pub returns-in-Bytes : goal.returns-in-Bytes
returns-in-Bytes g c = rw c.in-Bytes.is (c.found-in-Bytes.ensures)

pub found-requires-in-Empty : goal.found-requires-in-Empty
found-requires-in-Empty g c = rw c.in-Empty.is at c.requires

pub returns-in-Empty : goal.returns-in-Empty
returns-in-Empty g c = rw c.in-Empty.is (c.found-in-Empty.ensures)
