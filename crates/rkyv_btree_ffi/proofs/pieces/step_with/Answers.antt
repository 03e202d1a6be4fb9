-- Each type of values has its own call.
use Rattle.rkyv_btree_ffi.proofs.pieces.step_with.Goals as goal

pub step-requires : goal.step-requires
step-requires g c = rw c.in-U32.is at c.requires

pub returns-in-U32 : goal.returns-in-U32
returns-in-U32 g c = rw c.in-U32.is (record { gives = c.step.ensures.gives; lacks = c.step.ensures.lacks })

pub step-requires-in-U64 : goal.step-requires-in-U64
step-requires-in-U64 g c = rw c.in-U64.is at c.requires

pub returns-in-U64 : goal.returns-in-U64
returns-in-U64 g c = rw c.in-U64.is (record { gives = c.step-in-U64.ensures.gives; lacks = c.step-in-U64.ensures.lacks })

pub step-requires-in-I64 : goal.step-requires-in-I64
step-requires-in-I64 g c = rw c.in-I64.is at c.requires

pub returns-in-I64 : goal.returns-in-I64
returns-in-I64 g c = rw c.in-I64.is (record { gives = c.step-in-I64.ensures.gives; lacks = c.step-in-I64.ensures.lacks })

pub step-requires-in-Text : goal.step-requires-in-Text
step-requires-in-Text g c = rw c.in-Text.is at c.requires

pub returns-in-Text : goal.returns-in-Text
returns-in-Text g c = rw c.in-Text.is (record { gives = c.step-in-Text.ensures.gives; lacks = c.step-in-Text.ensures.lacks })

pub step-requires-in-Bytes : goal.step-requires-in-Bytes
step-requires-in-Bytes g c = rw c.in-Bytes.is at c.requires

pub returns-in-Bytes : goal.returns-in-Bytes
returns-in-Bytes g c = rw c.in-Bytes.is (record { gives = c.step-in-Bytes.ensures.gives; lacks = c.step-in-Bytes.ensures.lacks })

pub step-requires-in-Empty : goal.step-requires-in-Empty
step-requires-in-Empty g c = rw c.in-Empty.is at c.requires

pub returns-in-Empty : goal.returns-in-Empty
returns-in-Empty g c = rw c.in-Empty.is (record { gives = c.step-in-Empty.ensures.gives; lacks = c.step-in-Empty.ensures.lacks })
