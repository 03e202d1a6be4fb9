-- Each type of values has its own call.
use Rattle.rkyv_btree_ffi.proofs.opening.opened_strict_with.Goals as goal

pub opened_strict-requires : goal.opened_strict-requires
opened_strict-requires g c = rw c.in-U32.is at c.requires

pub returns-in-U32 : goal.returns-in-U32
returns-in-U32 g c = rw c.in-U32.is (c.opened_strict.ensures)

pub opened_strict-requires-in-U64 : goal.opened_strict-requires-in-U64
opened_strict-requires-in-U64 g c = rw c.in-U64.is at c.requires

pub returns-in-U64 : goal.returns-in-U64
returns-in-U64 g c = rw c.in-U64.is (c.opened_strict-in-U64.ensures)

pub opened_strict-requires-in-I64 : goal.opened_strict-requires-in-I64
opened_strict-requires-in-I64 g c = rw c.in-I64.is at c.requires

pub returns-in-I64 : goal.returns-in-I64
returns-in-I64 g c = rw c.in-I64.is (c.opened_strict-in-I64.ensures)

pub opened_strict-requires-in-Text : goal.opened_strict-requires-in-Text
opened_strict-requires-in-Text g c = rw c.in-Text.is at c.requires

pub returns-in-Text : goal.returns-in-Text
returns-in-Text g c = rw c.in-Text.is (c.opened_strict-in-Text.ensures)

pub opened_strict-requires-in-Bytes : goal.opened_strict-requires-in-Bytes
opened_strict-requires-in-Bytes g c = rw c.in-Bytes.is at c.requires

pub returns-in-Bytes : goal.returns-in-Bytes
returns-in-Bytes g c = rw c.in-Bytes.is (c.opened_strict-in-Bytes.ensures)

pub opened_strict-requires-in-Empty : goal.opened_strict-requires-in-Empty
opened_strict-requires-in-Empty g c = rw c.in-Empty.is at c.requires

pub returns-in-Empty : goal.returns-in-Empty
returns-in-Empty g c = rw c.in-Empty.is (c.opened_strict-in-Empty.ensures)
