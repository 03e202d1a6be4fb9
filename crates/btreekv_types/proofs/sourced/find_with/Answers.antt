-- Each type of values has its own call.
use Rattle.std.proofs.lemmas.Result.{IfOk-weaker, IfErr-weaker}
use Rattle.btreekv_types.specs.declared.any_type.AnyType.TheVariants.{Plain}
use Rattle.btreekv_types.specs.declared.plain_type.PlainType.TheVariants.{U8, U16, U32, U64, I32, I64, Text, Bytes}
use Rattle.btreekv_types.proofs.Pairs.{own_values}
use Rattle.btreekv_types.proofs.sourced.find_with.Goals as goal

pub find-requires : goal.find-requires
find-requires g c = rw c.in-U8.is at c.requires

pub returns-in-U8 : goal.returns-in-U8
returns-in-U8 g c = rw c.in-U8.is (record {
  ok = λ b known place. IfOk-weaker c.find.result _ _ (λ r h key_to keys maps. h key_to (λ v. v) keys (own_values (Plain U8)) maps) (c.find.ensures.ok b known place);
  err = λ b known place. IfErr-weaker c.find.result _ _ (λ fault h key_to keys maps. h key_to (λ v. v) keys (own_values (Plain U8)) maps) (c.find.ensures.err b known place);
  same = c.find.ensures.same;
})

pub find-requires-in-U16 : goal.find-requires-in-U16
find-requires-in-U16 g c = rw c.in-U16.is at c.requires

pub returns-in-U16 : goal.returns-in-U16
returns-in-U16 g c = rw c.in-U16.is (record {
  ok = λ b known place. IfOk-weaker c.find-in-U16.result _ _ (λ r h key_to keys maps. h key_to (λ v. v) keys (own_values (Plain U16)) maps) (c.find-in-U16.ensures.ok b known place);
  err = λ b known place. IfErr-weaker c.find-in-U16.result _ _ (λ fault h key_to keys maps. h key_to (λ v. v) keys (own_values (Plain U16)) maps) (c.find-in-U16.ensures.err b known place);
  same = c.find-in-U16.ensures.same;
})

pub find-requires-in-U32 : goal.find-requires-in-U32
find-requires-in-U32 g c = rw c.in-U32.is at c.requires

pub returns-in-U32 : goal.returns-in-U32
returns-in-U32 g c = rw c.in-U32.is (record {
  ok = λ b known place. IfOk-weaker c.find-in-U32.result _ _ (λ r h key_to keys maps. h key_to (λ v. v) keys (own_values (Plain U32)) maps) (c.find-in-U32.ensures.ok b known place);
  err = λ b known place. IfErr-weaker c.find-in-U32.result _ _ (λ fault h key_to keys maps. h key_to (λ v. v) keys (own_values (Plain U32)) maps) (c.find-in-U32.ensures.err b known place);
  same = c.find-in-U32.ensures.same;
})

pub find-requires-in-U64 : goal.find-requires-in-U64
find-requires-in-U64 g c = rw c.in-U64.is at c.requires

pub returns-in-U64 : goal.returns-in-U64
returns-in-U64 g c = rw c.in-U64.is (record {
  ok = λ b known place. IfOk-weaker c.find-in-U64.result _ _ (λ r h key_to keys maps. h key_to (λ v. v) keys (own_values (Plain U64)) maps) (c.find-in-U64.ensures.ok b known place);
  err = λ b known place. IfErr-weaker c.find-in-U64.result _ _ (λ fault h key_to keys maps. h key_to (λ v. v) keys (own_values (Plain U64)) maps) (c.find-in-U64.ensures.err b known place);
  same = c.find-in-U64.ensures.same;
})

pub find-requires-in-I32 : goal.find-requires-in-I32
find-requires-in-I32 g c = rw c.in-I32.is at c.requires

pub returns-in-I32 : goal.returns-in-I32
returns-in-I32 g c = rw c.in-I32.is (record {
  ok = λ b known place. IfOk-weaker c.find-in-I32.result _ _ (λ r h key_to keys maps. h key_to (λ v. v) keys (own_values (Plain I32)) maps) (c.find-in-I32.ensures.ok b known place);
  err = λ b known place. IfErr-weaker c.find-in-I32.result _ _ (λ fault h key_to keys maps. h key_to (λ v. v) keys (own_values (Plain I32)) maps) (c.find-in-I32.ensures.err b known place);
  same = c.find-in-I32.ensures.same;
})

pub find-requires-in-I64 : goal.find-requires-in-I64
find-requires-in-I64 g c = rw c.in-I64.is at c.requires

pub returns-in-I64 : goal.returns-in-I64
returns-in-I64 g c = rw c.in-I64.is (record {
  ok = λ b known place. IfOk-weaker c.find-in-I64.result _ _ (λ r h key_to keys maps. h key_to (λ v. v) keys (own_values (Plain I64)) maps) (c.find-in-I64.ensures.ok b known place);
  err = λ b known place. IfErr-weaker c.find-in-I64.result _ _ (λ fault h key_to keys maps. h key_to (λ v. v) keys (own_values (Plain I64)) maps) (c.find-in-I64.ensures.err b known place);
  same = c.find-in-I64.ensures.same;
})

pub find-requires-in-Text : goal.find-requires-in-Text
find-requires-in-Text g c = rw c.in-Text.is at c.requires

pub returns-in-Text : goal.returns-in-Text
returns-in-Text g c = rw c.in-Text.is (record {
  ok = λ b known place. IfOk-weaker c.find-in-Text.result _ _ (λ r h key_to keys maps. h key_to (λ v. v) keys (own_values (Plain Text)) maps) (c.find-in-Text.ensures.ok b known place);
  err = λ b known place. IfErr-weaker c.find-in-Text.result _ _ (λ fault h key_to keys maps. h key_to (λ v. v) keys (own_values (Plain Text)) maps) (c.find-in-Text.ensures.err b known place);
  same = c.find-in-Text.ensures.same;
})

pub find-requires-in-Bytes : goal.find-requires-in-Bytes
find-requires-in-Bytes g c = rw c.in-Bytes.is at c.requires

pub returns-in-Bytes : goal.returns-in-Bytes
returns-in-Bytes g c = rw c.in-Bytes.is (record {
  ok = λ b known place. IfOk-weaker c.find-in-Bytes.result _ _ (λ r h key_to keys maps. h key_to (λ v. v) keys (own_values (Plain Bytes)) maps) (c.find-in-Bytes.ensures.ok b known place);
  err = λ b known place. IfErr-weaker c.find-in-Bytes.result _ _ (λ fault h key_to keys maps. h key_to (λ v. v) keys (own_values (Plain Bytes)) maps) (c.find-in-Bytes.ensures.err b known place);
  same = c.find-in-Bytes.ensures.same;
})
