-- Each type of numbers has its own call, and other values aren't written over.
use Rattle.std.proofs.Common.{refl}
use Rattle.std.proofs.lemmas.Result.{IfOk-weaker, IfErr-weaker}
use Rattle.btreekv_types.specs.declared.any_type.AnyType.TheVariants.{Plain}
use Rattle.btreekv_types.specs.declared.plain_type.PlainType.TheVariants.{U8, U16, U32, U64, I32, I64}
use Rattle.btreekv_types.proofs.Pairs.{own_values}
use Rattle.btreekv_types.proofs.overwriting_types.overwrite_plain.Goals as goal

pub overwrite_value-requires : goal.overwrite_value-requires
overwrite_value-requires g c = rw c.in-U8.is at c.requires

pub returns-in-U8 : goal.returns-in-U8
returns-in-U8 g c = rw c.in-U8.is (record {
  ok = IfOk-weaker c.overwrite_value.result _ _ (λ r h key_to keys maps. h key_to (λ v. v) keys (own_values (Plain U8)) maps) c.overwrite_value.ensures.ok;
  err = IfErr-weaker c.overwrite_value.result _ _ (λ fault h key_to keys maps. h key_to (λ v. v) keys (own_values (Plain U8)) maps) c.overwrite_value.ensures.err;
})

pub overwrite_value-requires-in-U16 : goal.overwrite_value-requires-in-U16
overwrite_value-requires-in-U16 g c = rw c.in-U16.is at c.requires

pub returns-in-U16 : goal.returns-in-U16
returns-in-U16 g c = rw c.in-U16.is (record {
  ok = IfOk-weaker c.overwrite_value-in-U16.result _ _ (λ r h key_to keys maps. h key_to (λ v. v) keys (own_values (Plain U16)) maps) c.overwrite_value-in-U16.ensures.ok;
  err = IfErr-weaker c.overwrite_value-in-U16.result _ _ (λ fault h key_to keys maps. h key_to (λ v. v) keys (own_values (Plain U16)) maps) c.overwrite_value-in-U16.ensures.err;
})

pub overwrite_value-requires-in-U32 : goal.overwrite_value-requires-in-U32
overwrite_value-requires-in-U32 g c = rw c.in-U32.is at c.requires

pub returns-in-U32 : goal.returns-in-U32
returns-in-U32 g c = rw c.in-U32.is (record {
  ok = IfOk-weaker c.overwrite_value-in-U32.result _ _ (λ r h key_to keys maps. h key_to (λ v. v) keys (own_values (Plain U32)) maps) c.overwrite_value-in-U32.ensures.ok;
  err = IfErr-weaker c.overwrite_value-in-U32.result _ _ (λ fault h key_to keys maps. h key_to (λ v. v) keys (own_values (Plain U32)) maps) c.overwrite_value-in-U32.ensures.err;
})

pub overwrite_value-requires-in-U64 : goal.overwrite_value-requires-in-U64
overwrite_value-requires-in-U64 g c = rw c.in-U64.is at c.requires

pub returns-in-U64 : goal.returns-in-U64
returns-in-U64 g c = rw c.in-U64.is (record {
  ok = IfOk-weaker c.overwrite_value-in-U64.result _ _ (λ r h key_to keys maps. h key_to (λ v. v) keys (own_values (Plain U64)) maps) c.overwrite_value-in-U64.ensures.ok;
  err = IfErr-weaker c.overwrite_value-in-U64.result _ _ (λ fault h key_to keys maps. h key_to (λ v. v) keys (own_values (Plain U64)) maps) c.overwrite_value-in-U64.ensures.err;
})

pub overwrite_value-requires-in-I32 : goal.overwrite_value-requires-in-I32
overwrite_value-requires-in-I32 g c = rw c.in-I32.is at c.requires

pub returns-in-I32 : goal.returns-in-I32
returns-in-I32 g c = rw c.in-I32.is (record {
  ok = IfOk-weaker c.overwrite_value-in-I32.result _ _ (λ r h key_to keys maps. h key_to (λ v. v) keys (own_values (Plain I32)) maps) c.overwrite_value-in-I32.ensures.ok;
  err = IfErr-weaker c.overwrite_value-in-I32.result _ _ (λ fault h key_to keys maps. h key_to (λ v. v) keys (own_values (Plain I32)) maps) c.overwrite_value-in-I32.ensures.err;
})

pub overwrite_value-requires-in-I64 : goal.overwrite_value-requires-in-I64
overwrite_value-requires-in-I64 g c = rw c.in-I64.is at c.requires

pub returns-in-I64 : goal.returns-in-I64
returns-in-I64 g c = rw c.in-I64.is (record {
  ok = IfOk-weaker c.overwrite_value-in-I64.result _ _ (λ r h key_to keys maps. h key_to (λ v. v) keys (own_values (Plain I64)) maps) c.overwrite_value-in-I64.ensures.ok;
  err = IfErr-weaker c.overwrite_value-in-I64.result _ _ (λ fault h key_to keys maps. h key_to (λ v. v) keys (own_values (Plain I64)) maps) c.overwrite_value-in-I64.ensures.err;
})

pub returns-in-Text : goal.returns-in-Text
returns-in-Text g c = rw c.in-Text.is (record { ok = tt; err = λ key_to keys maps. ((λ no. no), refl) })

pub returns-in-Bytes : goal.returns-in-Bytes
returns-in-Bytes g c = rw c.in-Bytes.is (record { ok = tt; err = λ key_to keys maps. ((λ no. no), refl) })
