-- Each type of keys has its own call.
use Rattle.rkyv_btree_ffi.proofs.Fits.{all_fit}
use Rattle.rkyv_btree_ffi.specs.declared.map_type.ItemType.TheVariants.{U32, U64, I64, Text, Bytes, Empty}
use Rattle.rkyv_btree_ffi.proofs.bound.sizes_at.Goals as goal

pub sizes_with-requires : goal.sizes_with-requires
sizes_with-requires c = all_fit U32 c.args.map_type.value

pub returns-in-U32 : goal.returns-in-U32
returns-in-U32 c = rw c.in-U32.is c.sizes_with.ensures

pub sizes_with-requires-in-U64 : goal.sizes_with-requires-in-U64
sizes_with-requires-in-U64 c = all_fit U64 c.args.map_type.value

pub returns-in-U64 : goal.returns-in-U64
returns-in-U64 c = rw c.in-U64.is c.sizes_with-in-U64.ensures

pub sizes_with-requires-in-I64 : goal.sizes_with-requires-in-I64
sizes_with-requires-in-I64 c = all_fit I64 c.args.map_type.value

pub returns-in-I64 : goal.returns-in-I64
returns-in-I64 c = rw c.in-I64.is c.sizes_with-in-I64.ensures

pub sizes_with-requires-in-Text : goal.sizes_with-requires-in-Text
sizes_with-requires-in-Text c = all_fit Text c.args.map_type.value

pub returns-in-Text : goal.returns-in-Text
returns-in-Text c = rw c.in-Text.is c.sizes_with-in-Text.ensures

pub sizes_with-requires-in-Bytes : goal.sizes_with-requires-in-Bytes
sizes_with-requires-in-Bytes c = all_fit Bytes c.args.map_type.value

pub returns-in-Bytes : goal.returns-in-Bytes
returns-in-Bytes c = rw c.in-Bytes.is c.sizes_with-in-Bytes.ensures

pub sizes_with-requires-in-Empty : goal.sizes_with-requires-in-Empty
sizes_with-requires-in-Empty c = all_fit Empty c.args.map_type.value

pub returns-in-Empty : goal.returns-in-Empty
returns-in-Empty c = rw c.in-Empty.is c.sizes_with-in-Empty.ensures
