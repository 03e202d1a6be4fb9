-- Each type of values has its own call.
use Rattle.rkyv_btree_ffi.proofs.opening.opened_with.Goals as goal

pub opened-requires : goal.opened-requires
opened-requires g c = rw c.in-U32.is at c.requires

pub returns-in-U32 : goal.returns-in-U32
returns-in-U32 g c = rw c.in-U32.is (c.opened.ensures)

pub opened-requires-in-U64 : goal.opened-requires-in-U64
opened-requires-in-U64 g c = rw c.in-U64.is at c.requires

pub returns-in-U64 : goal.returns-in-U64
returns-in-U64 g c = rw c.in-U64.is (c.opened-in-U64.ensures)

pub opened-requires-in-I64 : goal.opened-requires-in-I64
opened-requires-in-I64 g c = rw c.in-I64.is at c.requires

pub returns-in-I64 : goal.returns-in-I64
returns-in-I64 g c = rw c.in-I64.is (c.opened-in-I64.ensures)

pub opened-requires-in-Text : goal.opened-requires-in-Text
opened-requires-in-Text g c = rw c.in-Text.is at c.requires

pub returns-in-Text : goal.returns-in-Text
returns-in-Text g c = rw c.in-Text.is (c.opened-in-Text.ensures)

pub opened-requires-in-Bytes : goal.opened-requires-in-Bytes
opened-requires-in-Bytes g c = rw c.in-Bytes.is at c.requires

pub returns-in-Bytes : goal.returns-in-Bytes
returns-in-Bytes g c = rw c.in-Bytes.is (c.opened-in-Bytes.ensures)

pub opened-requires-in-Empty : goal.opened-requires-in-Empty
opened-requires-in-Empty g c = rw c.in-Empty.is at c.requires

pub returns-in-Empty : goal.returns-in-Empty
returns-in-Empty g c = rw c.in-Empty.is (c.opened-in-Empty.ensures)
