-- Each type of keys has its own call.
use Rattle.std.proofs.Common.{refl}
use Rattle.rkyv_btree_ffi.specs.Entries.{comparison_at}
use Rattle.rkyv_btree_ffi.proofs.Types.{with_key}
use Rattle.rkyv_btree_ffi.specs.declared.map_type.ItemType.TheVariants.{U32, U64, I64, Text, Bytes, Empty}
use Rattle.rkyv_btree_ffi.proofs.editing.set_at.Goals as goal

pub set_with-requires : goal.set_with-requires
set_with-requires c = rw (with_key c.args.map_type U32 c.in-U32.is) at c.requires

pub returns-in-U32-clause-sets : goal.returns-in-U32-clause-sets
returns-in-U32-clause-sets c = rw (with_key c.args.map_type U32 c.in-U32.is) (c.set_with.ensures.sets (comparison_at U32) (λ n b at. refl))

pub returns-in-U32-clause-stands : goal.returns-in-U32-clause-stands
returns-in-U32-clause-stands c = rw (with_key c.args.map_type U32 c.in-U32.is) c.set_with.ensures.stands

pub set_with-requires-in-U64 : goal.set_with-requires-in-U64
set_with-requires-in-U64 c = rw (with_key c.args.map_type U64 c.in-U64.is) at c.requires

pub returns-in-U64-clause-sets : goal.returns-in-U64-clause-sets
returns-in-U64-clause-sets c = rw (with_key c.args.map_type U64 c.in-U64.is) (c.set_with-in-U64.ensures.sets (comparison_at U64) (λ n b at. refl))

pub returns-in-U64-clause-stands : goal.returns-in-U64-clause-stands
returns-in-U64-clause-stands c = rw (with_key c.args.map_type U64 c.in-U64.is) c.set_with-in-U64.ensures.stands

pub set_with-requires-in-I64 : goal.set_with-requires-in-I64
set_with-requires-in-I64 c = rw (with_key c.args.map_type I64 c.in-I64.is) at c.requires

pub returns-in-I64-clause-sets : goal.returns-in-I64-clause-sets
returns-in-I64-clause-sets c = rw (with_key c.args.map_type I64 c.in-I64.is) (c.set_with-in-I64.ensures.sets (comparison_at I64) (λ n b at. refl))

pub returns-in-I64-clause-stands : goal.returns-in-I64-clause-stands
returns-in-I64-clause-stands c = rw (with_key c.args.map_type I64 c.in-I64.is) c.set_with-in-I64.ensures.stands

pub set_with-requires-in-Text : goal.set_with-requires-in-Text
set_with-requires-in-Text c = rw (with_key c.args.map_type Text c.in-Text.is) at c.requires

pub returns-in-Text-clause-sets : goal.returns-in-Text-clause-sets
returns-in-Text-clause-sets c = rw (with_key c.args.map_type Text c.in-Text.is) (c.set_with-in-Text.ensures.sets (comparison_at Text) (λ n b at. refl))

pub returns-in-Text-clause-stands : goal.returns-in-Text-clause-stands
returns-in-Text-clause-stands c = rw (with_key c.args.map_type Text c.in-Text.is) c.set_with-in-Text.ensures.stands

pub set_with-requires-in-Bytes : goal.set_with-requires-in-Bytes
set_with-requires-in-Bytes c = rw (with_key c.args.map_type Bytes c.in-Bytes.is) at c.requires

pub returns-in-Bytes-clause-sets : goal.returns-in-Bytes-clause-sets
returns-in-Bytes-clause-sets c = rw (with_key c.args.map_type Bytes c.in-Bytes.is) (c.set_with-in-Bytes.ensures.sets (comparison_at Bytes) (λ n b at. refl))

pub returns-in-Bytes-clause-stands : goal.returns-in-Bytes-clause-stands
returns-in-Bytes-clause-stands c = rw (with_key c.args.map_type Bytes c.in-Bytes.is) c.set_with-in-Bytes.ensures.stands

pub set_with-requires-in-Empty : goal.set_with-requires-in-Empty
set_with-requires-in-Empty c = rw (with_key c.args.map_type Empty c.in-Empty.is) at c.requires

pub returns-in-Empty-clause-sets : goal.returns-in-Empty-clause-sets
returns-in-Empty-clause-sets c = rw (with_key c.args.map_type Empty c.in-Empty.is) (c.set_with-in-Empty.ensures.sets (comparison_at Empty) (λ n b at. refl))

pub returns-in-Empty-clause-stands : goal.returns-in-Empty-clause-stands
returns-in-Empty-clause-stands c = rw (with_key c.args.map_type Empty c.in-Empty.is) c.set_with-in-Empty.ensures.stands
