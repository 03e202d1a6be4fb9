-- Each type of numbers has its own call, and texts aren't written over.
use Rattle.std.proofs.Common.{refl}
use Rattle.std.proofs.lemmas.Result.{IfOk-weaker, IfErr-weaker}
use Rattle.btreekv_types.specs.declared.any_type.AnyType.TheVariants.{Plain}
use Rattle.btreekv_types.specs.declared.plain_type.PlainType.TheVariants.{U32, U64}
use Rattle.btreekv_types.proofs.Pairs.{own_values}
use Rattle.btreekv_types.proofs.overwriting_types.overwrite_common.Goals as goal

pub overwrite_value-requires : goal.overwrite_value-requires
overwrite_value-requires g c = rw c.in-U32.is at c.requires

pub returns-in-U32 : goal.returns-in-U32
returns-in-U32 g c = rw c.in-U32.is (record {
  ok = IfOk-weaker c.overwrite_value.result _ _ (λ r h key_to keys maps. h key_to (λ v. v) keys (own_values (Plain U32)) maps) c.overwrite_value.ensures.ok;
  err = IfErr-weaker c.overwrite_value.result _ _ (λ fault h key_to keys maps. h key_to (λ v. v) keys (own_values (Plain U32)) maps) c.overwrite_value.ensures.err;
})

pub overwrite_value-requires-in-U64 : goal.overwrite_value-requires-in-U64
overwrite_value-requires-in-U64 g c = rw c.in-U64.is at c.requires

pub returns-in-U64 : goal.returns-in-U64
returns-in-U64 g c = rw c.in-U64.is (record {
  ok = IfOk-weaker c.overwrite_value-in-U64.result _ _ (λ r h key_to keys maps. h key_to (λ v. v) keys (own_values (Plain U64)) maps) c.overwrite_value-in-U64.ensures.ok;
  err = IfErr-weaker c.overwrite_value-in-U64.result _ _ (λ fault h key_to keys maps. h key_to (λ v. v) keys (own_values (Plain U64)) maps) c.overwrite_value-in-U64.ensures.err;
})

pub returns-in-Text : goal.returns-in-Text
returns-in-Text g c = rw c.in-Text.is (record { ok = tt; err = λ key_to keys maps. ((λ no. no), refl) })
