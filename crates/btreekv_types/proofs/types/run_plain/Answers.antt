-- Each type of keys has its own call.
use Rattle.btreekv_types.specs.declared.any_type.AnyType.TheVariants.{Plain}
use Rattle.btreekv_types.specs.declared.plain_type.PlainType.TheVariants.{U8, U16, U32, U64, I32, I64, Text, Bytes}
use Rattle.btreekv_types.proofs.Fits.{all_fit}
use Rattle.btreekv_types.proofs.Pairs.{own_values, whole_at}
use Rattle.btreekv_types.proofs.types.run_plain.Goals as goal

pub run_to_plain-requires : goal.run_to_plain-requires
run_to_plain-requires g c = all_fit (Plain U8) (Plain c.args.types.value)

pub returns-in-U8 : goal.returns-in-U8
returns-in-U8 g c = rw c.in-U8.is (c.run_to_plain.ensures (λ v. v) (own_values (Plain U8)) (whole_at (Plain U8) (Plain c.args.types.value)))

pub run_to_plain-requires-in-U16 : goal.run_to_plain-requires-in-U16
run_to_plain-requires-in-U16 g c = all_fit (Plain U16) (Plain c.args.types.value)

pub returns-in-U16 : goal.returns-in-U16
returns-in-U16 g c = rw c.in-U16.is (c.run_to_plain-in-U16.ensures (λ v. v) (own_values (Plain U16)) (whole_at (Plain U16) (Plain c.args.types.value)))

pub run_to_plain-requires-in-U32 : goal.run_to_plain-requires-in-U32
run_to_plain-requires-in-U32 g c = all_fit (Plain U32) (Plain c.args.types.value)

pub returns-in-U32 : goal.returns-in-U32
returns-in-U32 g c = rw c.in-U32.is (c.run_to_plain-in-U32.ensures (λ v. v) (own_values (Plain U32)) (whole_at (Plain U32) (Plain c.args.types.value)))

pub run_to_plain-requires-in-U64 : goal.run_to_plain-requires-in-U64
run_to_plain-requires-in-U64 g c = all_fit (Plain U64) (Plain c.args.types.value)

pub returns-in-U64 : goal.returns-in-U64
returns-in-U64 g c = rw c.in-U64.is (c.run_to_plain-in-U64.ensures (λ v. v) (own_values (Plain U64)) (whole_at (Plain U64) (Plain c.args.types.value)))

pub run_to_plain-requires-in-I32 : goal.run_to_plain-requires-in-I32
run_to_plain-requires-in-I32 g c = all_fit (Plain I32) (Plain c.args.types.value)

pub returns-in-I32 : goal.returns-in-I32
returns-in-I32 g c = rw c.in-I32.is (c.run_to_plain-in-I32.ensures (λ v. v) (own_values (Plain I32)) (whole_at (Plain I32) (Plain c.args.types.value)))

pub run_to_plain-requires-in-I64 : goal.run_to_plain-requires-in-I64
run_to_plain-requires-in-I64 g c = all_fit (Plain I64) (Plain c.args.types.value)

pub returns-in-I64 : goal.returns-in-I64
returns-in-I64 g c = rw c.in-I64.is (c.run_to_plain-in-I64.ensures (λ v. v) (own_values (Plain I64)) (whole_at (Plain I64) (Plain c.args.types.value)))

pub run_to_plain-requires-in-Text : goal.run_to_plain-requires-in-Text
run_to_plain-requires-in-Text g c = all_fit (Plain Text) (Plain c.args.types.value)

pub returns-in-Text : goal.returns-in-Text
returns-in-Text g c = rw c.in-Text.is (c.run_to_plain-in-Text.ensures (λ v. v) (own_values (Plain Text)) (whole_at (Plain Text) (Plain c.args.types.value)))

pub run_to_plain-requires-in-Bytes : goal.run_to_plain-requires-in-Bytes
run_to_plain-requires-in-Bytes g c = all_fit (Plain Bytes) (Plain c.args.types.value)

pub returns-in-Bytes : goal.returns-in-Bytes
returns-in-Bytes g c = rw c.in-Bytes.is (c.run_to_plain-in-Bytes.ensures (λ v. v) (own_values (Plain Bytes)) (whole_at (Plain Bytes) (Plain c.args.types.value)))
