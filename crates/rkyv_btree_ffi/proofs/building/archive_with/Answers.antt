-- Each type of values has its own call.
use Rattle.std.proofs.Common.{refl}
use Rattle.rkyv_btree_ffi.proofs.building.archive_with.Goals as goal

pub archive-requires : goal.archive-requires
archive-requires g c = λ k. ((refl, tt), rw c.in-U32.is at c.requires)

pub returns-in-U32 : goal.returns-in-U32
returns-in-U32 g c = rw c.in-U32.is (record { built = c.archive.ensures.built; unbuilt = c.archive.ensures.unbuilt })

pub archive-requires-in-U64 : goal.archive-requires-in-U64
archive-requires-in-U64 g c = λ k. ((refl, tt), rw c.in-U64.is at c.requires)

pub returns-in-U64 : goal.returns-in-U64
returns-in-U64 g c = rw c.in-U64.is (record { built = c.archive-in-U64.ensures.built; unbuilt = c.archive-in-U64.ensures.unbuilt })

pub archive-requires-in-I64 : goal.archive-requires-in-I64
archive-requires-in-I64 g c = λ k. ((refl, tt), rw c.in-I64.is at c.requires)

pub returns-in-I64 : goal.returns-in-I64
returns-in-I64 g c = rw c.in-I64.is (record { built = c.archive-in-I64.ensures.built; unbuilt = c.archive-in-I64.ensures.unbuilt })

pub archive-requires-in-Text : goal.archive-requires-in-Text
archive-requires-in-Text g c = λ k. ((refl, tt), rw c.in-Text.is at c.requires)

pub returns-in-Text : goal.returns-in-Text
returns-in-Text g c = rw c.in-Text.is (record { built = c.archive-in-Text.ensures.built; unbuilt = c.archive-in-Text.ensures.unbuilt })

pub archive-requires-in-Bytes : goal.archive-requires-in-Bytes
archive-requires-in-Bytes g c = λ k. ((refl, tt), rw c.in-Bytes.is at c.requires)

pub returns-in-Bytes : goal.returns-in-Bytes
returns-in-Bytes g c = rw c.in-Bytes.is (record { built = c.archive-in-Bytes.ensures.built; unbuilt = c.archive-in-Bytes.ensures.unbuilt })

pub archive-requires-in-Empty : goal.archive-requires-in-Empty
archive-requires-in-Empty g c = λ k. ((refl, tt), rw c.in-Empty.is at c.requires)

pub returns-in-Empty : goal.returns-in-Empty
returns-in-Empty g c = rw c.in-Empty.is (record { built = c.archive-in-Empty.ensures.built; unbuilt = c.archive-in-Empty.ensures.unbuilt })
