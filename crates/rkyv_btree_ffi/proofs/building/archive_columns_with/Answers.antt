-- Each type of values has its own call.
use Rattle.std.proofs.Common.{refl}
use Rattle.rkyv_btree_ffi.proofs.building.archive_columns_with.Goals as goal

pub archive_columns-requires : goal.archive_columns-requires
archive_columns-requires g c = λ k. ((refl, tt), rw c.in-U32.is at c.requires)

pub returns-in-U32 : goal.returns-in-U32
returns-in-U32 g c = rw c.in-U32.is (record { built = c.archive_columns.ensures.built; unbuilt = c.archive_columns.ensures.unbuilt })

pub archive_columns-requires-in-U64 : goal.archive_columns-requires-in-U64
archive_columns-requires-in-U64 g c = λ k. ((refl, tt), rw c.in-U64.is at c.requires)

pub returns-in-U64 : goal.returns-in-U64
returns-in-U64 g c = rw c.in-U64.is (record { built = c.archive_columns-in-U64.ensures.built; unbuilt = c.archive_columns-in-U64.ensures.unbuilt })

pub archive_columns-requires-in-I64 : goal.archive_columns-requires-in-I64
archive_columns-requires-in-I64 g c = λ k. ((refl, tt), rw c.in-I64.is at c.requires)

pub returns-in-I64 : goal.returns-in-I64
returns-in-I64 g c = rw c.in-I64.is (record { built = c.archive_columns-in-I64.ensures.built; unbuilt = c.archive_columns-in-I64.ensures.unbuilt })

pub archive_columns-requires-in-Text : goal.archive_columns-requires-in-Text
archive_columns-requires-in-Text g c = λ k. ((refl, tt), rw c.in-Text.is at c.requires)

pub returns-in-Text : goal.returns-in-Text
returns-in-Text g c = rw c.in-Text.is (record { built = c.archive_columns-in-Text.ensures.built; unbuilt = c.archive_columns-in-Text.ensures.unbuilt })

pub archive_columns-requires-in-Bytes : goal.archive_columns-requires-in-Bytes
archive_columns-requires-in-Bytes g c = λ k. ((refl, tt), rw c.in-Bytes.is at c.requires)

pub returns-in-Bytes : goal.returns-in-Bytes
returns-in-Bytes g c = rw c.in-Bytes.is (record { built = c.archive_columns-in-Bytes.ensures.built; unbuilt = c.archive_columns-in-Bytes.ensures.unbuilt })

pub archive_columns-requires-in-Empty : goal.archive_columns-requires-in-Empty
archive_columns-requires-in-Empty g c = λ k. ((refl, tt), rw c.in-Empty.is at c.requires)

pub returns-in-Empty : goal.returns-in-Empty
returns-in-Empty g c = rw c.in-Empty.is (record { built = c.archive_columns-in-Empty.ensures.built; unbuilt = c.archive_columns-in-Empty.ensures.unbuilt })
