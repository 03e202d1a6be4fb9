-- Each type of values has its own header.
use Rattle.btreekv_types.proofs.sourced.heading_with.Goals as goal

pub returns-in-U8 : goal.returns-in-U8
returns-in-U8 g c = rw c.in-U8.is (record { ok = c.heading_to.ensures.ok; err = c.heading_to.ensures.err })

pub returns-in-U16 : goal.returns-in-U16
returns-in-U16 g c = rw c.in-U16.is (record { ok = c.heading_to-in-U16.ensures.ok; err = c.heading_to-in-U16.ensures.err })

pub returns-in-U32 : goal.returns-in-U32
returns-in-U32 g c = rw c.in-U32.is (record { ok = c.heading_to-in-U32.ensures.ok; err = c.heading_to-in-U32.ensures.err })

pub returns-in-U64 : goal.returns-in-U64
returns-in-U64 g c = rw c.in-U64.is (record { ok = c.heading_to-in-U64.ensures.ok; err = c.heading_to-in-U64.ensures.err })

pub returns-in-I32 : goal.returns-in-I32
returns-in-I32 g c = rw c.in-I32.is (record { ok = c.heading_to-in-I32.ensures.ok; err = c.heading_to-in-I32.ensures.err })

pub returns-in-I64 : goal.returns-in-I64
returns-in-I64 g c = rw c.in-I64.is (record { ok = c.heading_to-in-I64.ensures.ok; err = c.heading_to-in-I64.ensures.err })

pub returns-in-Text : goal.returns-in-Text
returns-in-Text g c = rw c.in-Text.is (record { ok = c.heading_to-in-Text.ensures.ok; err = c.heading_to-in-Text.ensures.err })

pub returns-in-Bytes : goal.returns-in-Bytes
returns-in-Bytes g c = rw c.in-Bytes.is (record { ok = c.heading_to-in-Bytes.ensures.ok; err = c.heading_to-in-Bytes.ensures.err })
