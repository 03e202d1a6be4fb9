-- Each type of values has its own call.
use Rattle.rkyv_btree_ffi.proofs.finding.lookup_with.Goals as goal

pub lookup-requires : goal.lookup-requires
lookup-requires g c = rw c.in-U32.is at c.requires

pub returns-in-U32 : goal.returns-in-U32
returns-in-U32 g c = rw c.in-U32.is (c.lookup.ensures)

pub lookup-requires-in-U64 : goal.lookup-requires-in-U64
lookup-requires-in-U64 g c = rw c.in-U64.is at c.requires

pub returns-in-U64 : goal.returns-in-U64
returns-in-U64 g c = rw c.in-U64.is (c.lookup-in-U64.ensures)

pub lookup-requires-in-I64 : goal.lookup-requires-in-I64
lookup-requires-in-I64 g c = rw c.in-I64.is at c.requires

pub returns-in-I64 : goal.returns-in-I64
returns-in-I64 g c = rw c.in-I64.is (c.lookup-in-I64.ensures)

pub lookup-requires-in-Text : goal.lookup-requires-in-Text
lookup-requires-in-Text g c = rw c.in-Text.is at c.requires

pub returns-in-Text : goal.returns-in-Text
returns-in-Text g c = rw c.in-Text.is (c.lookup-in-Text.ensures)

pub lookup-requires-in-Bytes : goal.lookup-requires-in-Bytes
lookup-requires-in-Bytes g c = rw c.in-Bytes.is at c.requires

pub returns-in-Bytes : goal.returns-in-Bytes
returns-in-Bytes g c = rw c.in-Bytes.is (c.lookup-in-Bytes.ensures)

pub lookup-requires-in-Empty : goal.lookup-requires-in-Empty
lookup-requires-in-Empty g c = rw c.in-Empty.is at c.requires

pub returns-in-Empty : goal.returns-in-Empty
returns-in-Empty g c = rw c.in-Empty.is (c.lookup-in-Empty.ensures)
