-- Each type of values has its own call.
use Rattle.rkyv_btree_ffi.proofs.bound.sizes_with.Goals as goal

pub sizes-requires : goal.sizes-requires
sizes-requires g c = rw c.in-U32.is at c.requires

pub returns-in-U32 : goal.returns-in-U32
returns-in-U32 g c = rw c.in-U32.is c.sizes.ensures

pub sizes-requires-in-U64 : goal.sizes-requires-in-U64
sizes-requires-in-U64 g c = rw c.in-U64.is at c.requires

pub returns-in-U64 : goal.returns-in-U64
returns-in-U64 g c = rw c.in-U64.is c.sizes-in-U64.ensures

pub sizes-requires-in-I64 : goal.sizes-requires-in-I64
sizes-requires-in-I64 g c = rw c.in-I64.is at c.requires

pub returns-in-I64 : goal.returns-in-I64
returns-in-I64 g c = rw c.in-I64.is c.sizes-in-I64.ensures

pub sizes-requires-in-Text : goal.sizes-requires-in-Text
sizes-requires-in-Text g c = rw c.in-Text.is at c.requires

pub returns-in-Text : goal.returns-in-Text
returns-in-Text g c = rw c.in-Text.is c.sizes-in-Text.ensures

pub sizes-requires-in-Bytes : goal.sizes-requires-in-Bytes
sizes-requires-in-Bytes g c = rw c.in-Bytes.is at c.requires

pub returns-in-Bytes : goal.returns-in-Bytes
returns-in-Bytes g c = rw c.in-Bytes.is c.sizes-in-Bytes.ensures

pub sizes-requires-in-Empty : goal.sizes-requires-in-Empty
sizes-requires-in-Empty g c = rw c.in-Empty.is at c.requires

pub returns-in-Empty : goal.returns-in-Empty
returns-in-Empty g c = rw c.in-Empty.is c.sizes-in-Empty.ensures
