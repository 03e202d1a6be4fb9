-- Each type of keys has its own call.
use Rattle.std.proofs.Common.{refl}
use Rattle.rkyv_btree_ffi.specs.Entries.{comparison_at}
use Rattle.rkyv_btree_ffi.proofs.Types.{with_key}
use Rattle.rkyv_btree_ffi.specs.declared.map_type.ItemType.TheVariants.{U32, U64, I64, Text, Bytes, Empty}
use Rattle.rkyv_btree_ffi.proofs.reading.sought_at.Goals as goal

pub sought_with-requires : goal.sought_with-requires
sought_with-requires c = rw (with_key c.args.map_type U32 c.in-U32.is) at c.requires

pub returns-in-U32 : goal.returns-in-U32
returns-in-U32 c = rw (with_key c.args.map_type U32 c.in-U32.is) (record { place = c.sought_with.ensures.place; from = record { run = c.sought_with.ensures.run; within = c.sought_with.ensures.within (comparison_at U32) (λ n b at. refl) } })

pub sought_with-requires-in-U64 : goal.sought_with-requires-in-U64
sought_with-requires-in-U64 c = rw (with_key c.args.map_type U64 c.in-U64.is) at c.requires

pub returns-in-U64 : goal.returns-in-U64
returns-in-U64 c = rw (with_key c.args.map_type U64 c.in-U64.is) (record { place = c.sought_with-in-U64.ensures.place; from = record { run = c.sought_with-in-U64.ensures.run; within = c.sought_with-in-U64.ensures.within (comparison_at U64) (λ n b at. refl) } })

pub sought_with-requires-in-I64 : goal.sought_with-requires-in-I64
sought_with-requires-in-I64 c = rw (with_key c.args.map_type I64 c.in-I64.is) at c.requires

pub returns-in-I64 : goal.returns-in-I64
returns-in-I64 c = rw (with_key c.args.map_type I64 c.in-I64.is) (record { place = c.sought_with-in-I64.ensures.place; from = record { run = c.sought_with-in-I64.ensures.run; within = c.sought_with-in-I64.ensures.within (comparison_at I64) (λ n b at. refl) } })

pub sought_with-requires-in-Text : goal.sought_with-requires-in-Text
sought_with-requires-in-Text c = rw (with_key c.args.map_type Text c.in-Text.is) at c.requires

pub returns-in-Text : goal.returns-in-Text
returns-in-Text c = rw (with_key c.args.map_type Text c.in-Text.is) (record { place = c.sought_with-in-Text.ensures.place; from = record { run = c.sought_with-in-Text.ensures.run; within = c.sought_with-in-Text.ensures.within (comparison_at Text) (λ n b at. refl) } })

pub sought_with-requires-in-Bytes : goal.sought_with-requires-in-Bytes
sought_with-requires-in-Bytes c = rw (with_key c.args.map_type Bytes c.in-Bytes.is) at c.requires

pub returns-in-Bytes : goal.returns-in-Bytes
returns-in-Bytes c = rw (with_key c.args.map_type Bytes c.in-Bytes.is) (record { place = c.sought_with-in-Bytes.ensures.place; from = record { run = c.sought_with-in-Bytes.ensures.run; within = c.sought_with-in-Bytes.ensures.within (comparison_at Bytes) (λ n b at. refl) } })

pub sought_with-requires-in-Empty : goal.sought_with-requires-in-Empty
sought_with-requires-in-Empty c = rw (with_key c.args.map_type Empty c.in-Empty.is) at c.requires

pub returns-in-Empty : goal.returns-in-Empty
returns-in-Empty c = rw (with_key c.args.map_type Empty c.in-Empty.is) (record { place = c.sought_with-in-Empty.ensures.place; from = record { run = c.sought_with-in-Empty.ensures.run; within = c.sought_with-in-Empty.ensures.within (comparison_at Empty) (λ n b at. refl) } })
