-- Each type of values has its own call.
use Rattle.btreekv_types.specs.declared.any_type.AnyType.TheVariants.{Plain}
use Rattle.btreekv_types.specs.declared.plain_type.PlainType.TheVariants.{U8, U16, U32, U64, I32, I64, Text, Bytes}
use Rattle.btreekv_types.proofs.Pairs.{own_values}
use Rattle.btreekv_types.proofs.types.run_to_plain.Goals as goal

pub run_of-requires : goal.run_of-requires
run_of-requires g c = rw c.in-U8.is at c.requires

pub returns-in-U8 : goal.returns-in-U8
returns-in-U8 g c = rw c.in-U8.is (λ key_to keys maps. c.run_of.ensures key_to (λ v. v) keys (own_values (Plain U8)) maps)

pub run_of-requires-in-U16 : goal.run_of-requires-in-U16
run_of-requires-in-U16 g c = rw c.in-U16.is at c.requires

pub returns-in-U16 : goal.returns-in-U16
returns-in-U16 g c = rw c.in-U16.is (λ key_to keys maps. c.run_of-in-U16.ensures key_to (λ v. v) keys (own_values (Plain U16)) maps)

pub run_of-requires-in-U32 : goal.run_of-requires-in-U32
run_of-requires-in-U32 g c = rw c.in-U32.is at c.requires

pub returns-in-U32 : goal.returns-in-U32
returns-in-U32 g c = rw c.in-U32.is (λ key_to keys maps. c.run_of-in-U32.ensures key_to (λ v. v) keys (own_values (Plain U32)) maps)

pub run_of-requires-in-U64 : goal.run_of-requires-in-U64
run_of-requires-in-U64 g c = rw c.in-U64.is at c.requires

pub returns-in-U64 : goal.returns-in-U64
returns-in-U64 g c = rw c.in-U64.is (λ key_to keys maps. c.run_of-in-U64.ensures key_to (λ v. v) keys (own_values (Plain U64)) maps)

pub run_of-requires-in-I32 : goal.run_of-requires-in-I32
run_of-requires-in-I32 g c = rw c.in-I32.is at c.requires

pub returns-in-I32 : goal.returns-in-I32
returns-in-I32 g c = rw c.in-I32.is (λ key_to keys maps. c.run_of-in-I32.ensures key_to (λ v. v) keys (own_values (Plain I32)) maps)

pub run_of-requires-in-I64 : goal.run_of-requires-in-I64
run_of-requires-in-I64 g c = rw c.in-I64.is at c.requires

pub returns-in-I64 : goal.returns-in-I64
returns-in-I64 g c = rw c.in-I64.is (λ key_to keys maps. c.run_of-in-I64.ensures key_to (λ v. v) keys (own_values (Plain I64)) maps)

pub run_of-requires-in-Text : goal.run_of-requires-in-Text
run_of-requires-in-Text g c = rw c.in-Text.is at c.requires

pub returns-in-Text : goal.returns-in-Text
returns-in-Text g c = rw c.in-Text.is (λ key_to keys maps. c.run_of-in-Text.ensures key_to (λ v. v) keys (own_values (Plain Text)) maps)

pub run_of-requires-in-Bytes : goal.run_of-requires-in-Bytes
run_of-requires-in-Bytes g c = rw c.in-Bytes.is at c.requires

pub returns-in-Bytes : goal.returns-in-Bytes
returns-in-Bytes g c = rw c.in-Bytes.is (λ key_to keys maps. c.run_of-in-Bytes.ensures key_to (λ v. v) keys (own_values (Plain Bytes)) maps)
