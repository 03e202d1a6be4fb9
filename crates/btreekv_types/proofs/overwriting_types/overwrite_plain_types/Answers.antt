-- Each type of keys has its own call.
use Rattle.std.proofs.lemmas.Result.{IfOk-weaker, IfErr-weaker}
use Rattle.btreekv_types.specs.declared.any_type.AnyType.TheVariants.{Plain}
use Rattle.btreekv_types.specs.declared.plain_type.PlainType.TheVariants.{U8, U16, U32, U64, I32, I64, Text, Bytes}
use Rattle.btreekv_types.proofs.Fits.{all_fit}
use Rattle.btreekv_types.proofs.Pairs.{own_values, whole_at}
use Rattle.btreekv_types.proofs.overwriting_types.overwrite_plain_types.Goals as goal

pub overwrite_plain-requires : goal.overwrite_plain-requires
overwrite_plain-requires c = all_fit (Plain U8) (Plain c.args.types.value)

pub returns-in-U8 : goal.returns-in-U8
returns-in-U8 c = rw c.in-U8.is (record {
  ok = IfOk-weaker c.overwrite_plain.result _ _ (λ r h. h (λ v. v) (own_values (Plain U8)) (whole_at (Plain U8) (Plain c.args.types.value))) c.overwrite_plain.ensures.ok;
  err = IfErr-weaker c.overwrite_plain.result _ _ (λ fault h. h (λ v. v) (own_values (Plain U8)) (whole_at (Plain U8) (Plain c.args.types.value))) c.overwrite_plain.ensures.err;
})

pub overwrite_plain-requires-in-U16 : goal.overwrite_plain-requires-in-U16
overwrite_plain-requires-in-U16 c = all_fit (Plain U16) (Plain c.args.types.value)

pub returns-in-U16 : goal.returns-in-U16
returns-in-U16 c = rw c.in-U16.is (record {
  ok = IfOk-weaker c.overwrite_plain-in-U16.result _ _ (λ r h. h (λ v. v) (own_values (Plain U16)) (whole_at (Plain U16) (Plain c.args.types.value))) c.overwrite_plain-in-U16.ensures.ok;
  err = IfErr-weaker c.overwrite_plain-in-U16.result _ _ (λ fault h. h (λ v. v) (own_values (Plain U16)) (whole_at (Plain U16) (Plain c.args.types.value))) c.overwrite_plain-in-U16.ensures.err;
})

pub overwrite_plain-requires-in-U32 : goal.overwrite_plain-requires-in-U32
overwrite_plain-requires-in-U32 c = all_fit (Plain U32) (Plain c.args.types.value)

pub returns-in-U32 : goal.returns-in-U32
returns-in-U32 c = rw c.in-U32.is (record {
  ok = IfOk-weaker c.overwrite_plain-in-U32.result _ _ (λ r h. h (λ v. v) (own_values (Plain U32)) (whole_at (Plain U32) (Plain c.args.types.value))) c.overwrite_plain-in-U32.ensures.ok;
  err = IfErr-weaker c.overwrite_plain-in-U32.result _ _ (λ fault h. h (λ v. v) (own_values (Plain U32)) (whole_at (Plain U32) (Plain c.args.types.value))) c.overwrite_plain-in-U32.ensures.err;
})

pub overwrite_plain-requires-in-U64 : goal.overwrite_plain-requires-in-U64
overwrite_plain-requires-in-U64 c = all_fit (Plain U64) (Plain c.args.types.value)

pub returns-in-U64 : goal.returns-in-U64
returns-in-U64 c = rw c.in-U64.is (record {
  ok = IfOk-weaker c.overwrite_plain-in-U64.result _ _ (λ r h. h (λ v. v) (own_values (Plain U64)) (whole_at (Plain U64) (Plain c.args.types.value))) c.overwrite_plain-in-U64.ensures.ok;
  err = IfErr-weaker c.overwrite_plain-in-U64.result _ _ (λ fault h. h (λ v. v) (own_values (Plain U64)) (whole_at (Plain U64) (Plain c.args.types.value))) c.overwrite_plain-in-U64.ensures.err;
})

pub overwrite_plain-requires-in-I32 : goal.overwrite_plain-requires-in-I32
overwrite_plain-requires-in-I32 c = all_fit (Plain I32) (Plain c.args.types.value)

pub returns-in-I32 : goal.returns-in-I32
returns-in-I32 c = rw c.in-I32.is (record {
  ok = IfOk-weaker c.overwrite_plain-in-I32.result _ _ (λ r h. h (λ v. v) (own_values (Plain I32)) (whole_at (Plain I32) (Plain c.args.types.value))) c.overwrite_plain-in-I32.ensures.ok;
  err = IfErr-weaker c.overwrite_plain-in-I32.result _ _ (λ fault h. h (λ v. v) (own_values (Plain I32)) (whole_at (Plain I32) (Plain c.args.types.value))) c.overwrite_plain-in-I32.ensures.err;
})

pub overwrite_plain-requires-in-I64 : goal.overwrite_plain-requires-in-I64
overwrite_plain-requires-in-I64 c = all_fit (Plain I64) (Plain c.args.types.value)

pub returns-in-I64 : goal.returns-in-I64
returns-in-I64 c = rw c.in-I64.is (record {
  ok = IfOk-weaker c.overwrite_plain-in-I64.result _ _ (λ r h. h (λ v. v) (own_values (Plain I64)) (whole_at (Plain I64) (Plain c.args.types.value))) c.overwrite_plain-in-I64.ensures.ok;
  err = IfErr-weaker c.overwrite_plain-in-I64.result _ _ (λ fault h. h (λ v. v) (own_values (Plain I64)) (whole_at (Plain I64) (Plain c.args.types.value))) c.overwrite_plain-in-I64.ensures.err;
})

pub overwrite_plain-requires-in-Text : goal.overwrite_plain-requires-in-Text
overwrite_plain-requires-in-Text c = all_fit (Plain Text) (Plain c.args.types.value)

pub returns-in-Text : goal.returns-in-Text
returns-in-Text c = rw c.in-Text.is (record {
  ok = IfOk-weaker c.overwrite_plain-in-Text.result _ _ (λ r h. h (λ v. v) (own_values (Plain Text)) (whole_at (Plain Text) (Plain c.args.types.value))) c.overwrite_plain-in-Text.ensures.ok;
  err = IfErr-weaker c.overwrite_plain-in-Text.result _ _ (λ fault h. h (λ v. v) (own_values (Plain Text)) (whole_at (Plain Text) (Plain c.args.types.value))) c.overwrite_plain-in-Text.ensures.err;
})

pub overwrite_plain-requires-in-Bytes : goal.overwrite_plain-requires-in-Bytes
overwrite_plain-requires-in-Bytes c = all_fit (Plain Bytes) (Plain c.args.types.value)

pub returns-in-Bytes : goal.returns-in-Bytes
returns-in-Bytes c = rw c.in-Bytes.is (record {
  ok = IfOk-weaker c.overwrite_plain-in-Bytes.result _ _ (λ r h. h (λ v. v) (own_values (Plain Bytes)) (whole_at (Plain Bytes) (Plain c.args.types.value))) c.overwrite_plain-in-Bytes.ensures.ok;
  err = IfErr-weaker c.overwrite_plain-in-Bytes.result _ _ (λ fault h. h (λ v. v) (own_values (Plain Bytes)) (whole_at (Plain Bytes) (Plain c.args.types.value))) c.overwrite_plain-in-Bytes.ensures.err;
})
