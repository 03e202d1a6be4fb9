-- Each type of keys has its own call.
use Rattle.std.proofs.Common.{refl}
use Rattle.rkyv_btree_ffi.proofs.Fits.{all_fit}
use Rattle.rkyv_btree_ffi.specs.MapTypes.{typed}
use Rattle.rkyv_btree_ffi.proofs.Built.{archives}
use Rattle.rkyv_btree_ffi.proofs.Types.{with_key}
use Rattle.rkyv_btree_ffi.specs.declared.map_type.ItemType.TheVariants.{U32, U64, I64, Text, Bytes, Empty}
use Rattle.rkyv_btree_ffi.proofs.building.archive_at.Goals as goal

pub archive_with-requires : goal.archive_with-requires
archive_with-requires c = λ k. ((refl, tt), all_fit U32 c.args.map_type.value)

pub returns-in-U32 : goal.returns-in-U32
returns-in-U32 c = rw (with_key c.args.map_type U32 c.in-U32.is) (archives (typed U32 c.args.map_type.value) _ (λ x y. refl) c.args.order c.args.texts.now c.args.entries.now c.archive_with.result c.archive_with.ensures.built c.archive_with.ensures.unbuilt)

pub archive_with-requires-in-U64 : goal.archive_with-requires-in-U64
archive_with-requires-in-U64 c = λ k. ((refl, tt), all_fit U64 c.args.map_type.value)

pub returns-in-U64 : goal.returns-in-U64
returns-in-U64 c = rw (with_key c.args.map_type U64 c.in-U64.is) (archives (typed U64 c.args.map_type.value) _ (λ x y. refl) c.args.order c.args.texts.now c.args.entries.now c.archive_with-in-U64.result c.archive_with-in-U64.ensures.built c.archive_with-in-U64.ensures.unbuilt)

pub archive_with-requires-in-I64 : goal.archive_with-requires-in-I64
archive_with-requires-in-I64 c = λ k. ((refl, tt), all_fit I64 c.args.map_type.value)

pub returns-in-I64 : goal.returns-in-I64
returns-in-I64 c = rw (with_key c.args.map_type I64 c.in-I64.is) (archives (typed I64 c.args.map_type.value) _ (λ x y. refl) c.args.order c.args.texts.now c.args.entries.now c.archive_with-in-I64.result c.archive_with-in-I64.ensures.built c.archive_with-in-I64.ensures.unbuilt)

pub archive_with-requires-in-Text : goal.archive_with-requires-in-Text
archive_with-requires-in-Text c = λ k. ((refl, tt), all_fit Text c.args.map_type.value)

pub returns-in-Text : goal.returns-in-Text
returns-in-Text c = rw (with_key c.args.map_type Text c.in-Text.is) (archives (typed Text c.args.map_type.value) _ (λ x y. refl) c.args.order c.args.texts.now c.args.entries.now c.archive_with-in-Text.result c.archive_with-in-Text.ensures.built c.archive_with-in-Text.ensures.unbuilt)

pub archive_with-requires-in-Bytes : goal.archive_with-requires-in-Bytes
archive_with-requires-in-Bytes c = λ k. ((refl, tt), all_fit Bytes c.args.map_type.value)

pub returns-in-Bytes : goal.returns-in-Bytes
returns-in-Bytes c = rw (with_key c.args.map_type Bytes c.in-Bytes.is) (archives (typed Bytes c.args.map_type.value) _ (λ x y. refl) c.args.order c.args.texts.now c.args.entries.now c.archive_with-in-Bytes.result c.archive_with-in-Bytes.ensures.built c.archive_with-in-Bytes.ensures.unbuilt)

pub archive_with-requires-in-Empty : goal.archive_with-requires-in-Empty
archive_with-requires-in-Empty c = λ k. ((refl, tt), all_fit Empty c.args.map_type.value)

pub returns-in-Empty : goal.returns-in-Empty
returns-in-Empty c = rw (with_key c.args.map_type Empty c.in-Empty.is) (archives (typed Empty c.args.map_type.value) _ (λ x y. refl) c.args.order c.args.texts.now c.args.entries.now c.archive_with-in-Empty.result c.archive_with-in-Empty.ensures.built c.archive_with-in-Empty.ensures.unbuilt)
