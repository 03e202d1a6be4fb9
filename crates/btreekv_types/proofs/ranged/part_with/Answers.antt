-- Each type of values has its own call.
use Rattle.std.proofs.lemmas.Result.{IfOk-weaker, IfErr-weaker}
use Rattle.btreekv_types.specs.declared.any_type.AnyType.TheVariants.{Plain}
use Rattle.btreekv_types.specs.declared.plain_type.PlainType.TheVariants.{U8, U16, U32, U64, I32, I64, Text, Bytes}
use Rattle.btreekv_types.proofs.Pairs.{own_values}
use Rattle.btreekv_types.proofs.ranged.part_with.Goals as goal

pub part_of-requires : goal.part_of-requires
part_of-requires g c = rw c.in-U8.is at c.requires

pub returns-in-U8 : goal.returns-in-U8
returns-in-U8 g c = rw c.in-U8.is (record {
  ok = λ b known place. IfOk-weaker c.part_of.result _ _ (λ r h key_to keys maps. h key_to (λ v. v) keys (own_values (Plain U8)) maps) (c.part_of.ensures.ok b known place);
  err = λ b known place. IfErr-weaker c.part_of.result _ _ (λ fault h key_to keys maps. h key_to (λ v. v) keys (own_values (Plain U8)) maps) (c.part_of.ensures.err b known place);
})

pub part_of-requires-in-U16 : goal.part_of-requires-in-U16
part_of-requires-in-U16 g c = rw c.in-U16.is at c.requires

pub returns-in-U16 : goal.returns-in-U16
returns-in-U16 g c = rw c.in-U16.is (record {
  ok = λ b known place. IfOk-weaker c.part_of-in-U16.result _ _ (λ r h key_to keys maps. h key_to (λ v. v) keys (own_values (Plain U16)) maps) (c.part_of-in-U16.ensures.ok b known place);
  err = λ b known place. IfErr-weaker c.part_of-in-U16.result _ _ (λ fault h key_to keys maps. h key_to (λ v. v) keys (own_values (Plain U16)) maps) (c.part_of-in-U16.ensures.err b known place);
})

pub part_of-requires-in-U32 : goal.part_of-requires-in-U32
part_of-requires-in-U32 g c = rw c.in-U32.is at c.requires

pub returns-in-U32 : goal.returns-in-U32
returns-in-U32 g c = rw c.in-U32.is (record {
  ok = λ b known place. IfOk-weaker c.part_of-in-U32.result _ _ (λ r h key_to keys maps. h key_to (λ v. v) keys (own_values (Plain U32)) maps) (c.part_of-in-U32.ensures.ok b known place);
  err = λ b known place. IfErr-weaker c.part_of-in-U32.result _ _ (λ fault h key_to keys maps. h key_to (λ v. v) keys (own_values (Plain U32)) maps) (c.part_of-in-U32.ensures.err b known place);
})

pub part_of-requires-in-U64 : goal.part_of-requires-in-U64
part_of-requires-in-U64 g c = rw c.in-U64.is at c.requires

pub returns-in-U64 : goal.returns-in-U64
returns-in-U64 g c = rw c.in-U64.is (record {
  ok = λ b known place. IfOk-weaker c.part_of-in-U64.result _ _ (λ r h key_to keys maps. h key_to (λ v. v) keys (own_values (Plain U64)) maps) (c.part_of-in-U64.ensures.ok b known place);
  err = λ b known place. IfErr-weaker c.part_of-in-U64.result _ _ (λ fault h key_to keys maps. h key_to (λ v. v) keys (own_values (Plain U64)) maps) (c.part_of-in-U64.ensures.err b known place);
})

pub part_of-requires-in-I32 : goal.part_of-requires-in-I32
part_of-requires-in-I32 g c = rw c.in-I32.is at c.requires

pub returns-in-I32 : goal.returns-in-I32
returns-in-I32 g c = rw c.in-I32.is (record {
  ok = λ b known place. IfOk-weaker c.part_of-in-I32.result _ _ (λ r h key_to keys maps. h key_to (λ v. v) keys (own_values (Plain I32)) maps) (c.part_of-in-I32.ensures.ok b known place);
  err = λ b known place. IfErr-weaker c.part_of-in-I32.result _ _ (λ fault h key_to keys maps. h key_to (λ v. v) keys (own_values (Plain I32)) maps) (c.part_of-in-I32.ensures.err b known place);
})

pub part_of-requires-in-I64 : goal.part_of-requires-in-I64
part_of-requires-in-I64 g c = rw c.in-I64.is at c.requires

pub returns-in-I64 : goal.returns-in-I64
returns-in-I64 g c = rw c.in-I64.is (record {
  ok = λ b known place. IfOk-weaker c.part_of-in-I64.result _ _ (λ r h key_to keys maps. h key_to (λ v. v) keys (own_values (Plain I64)) maps) (c.part_of-in-I64.ensures.ok b known place);
  err = λ b known place. IfErr-weaker c.part_of-in-I64.result _ _ (λ fault h key_to keys maps. h key_to (λ v. v) keys (own_values (Plain I64)) maps) (c.part_of-in-I64.ensures.err b known place);
})

pub part_of-requires-in-Text : goal.part_of-requires-in-Text
part_of-requires-in-Text g c = rw c.in-Text.is at c.requires

pub returns-in-Text : goal.returns-in-Text
returns-in-Text g c = rw c.in-Text.is (record {
  ok = λ b known place. IfOk-weaker c.part_of-in-Text.result _ _ (λ r h key_to keys maps. h key_to (λ v. v) keys (own_values (Plain Text)) maps) (c.part_of-in-Text.ensures.ok b known place);
  err = λ b known place. IfErr-weaker c.part_of-in-Text.result _ _ (λ fault h key_to keys maps. h key_to (λ v. v) keys (own_values (Plain Text)) maps) (c.part_of-in-Text.ensures.err b known place);
})

pub part_of-requires-in-Bytes : goal.part_of-requires-in-Bytes
part_of-requires-in-Bytes g c = rw c.in-Bytes.is at c.requires

pub returns-in-Bytes : goal.returns-in-Bytes
returns-in-Bytes g c = rw c.in-Bytes.is (record {
  ok = λ b known place. IfOk-weaker c.part_of-in-Bytes.result _ _ (λ r h key_to keys maps. h key_to (λ v. v) keys (own_values (Plain Bytes)) maps) (c.part_of-in-Bytes.ensures.ok b known place);
  err = λ b known place. IfErr-weaker c.part_of-in-Bytes.result _ _ (λ fault h key_to keys maps. h key_to (λ v. v) keys (own_values (Plain Bytes)) maps) (c.part_of-in-Bytes.ensures.err b known place);
})
