-- Each type of keys has its own call.
use Rattle.std.proofs.lemmas.Result.{IfOk-weaker, IfErr-weaker}
use Rattle.btreekv_types.specs.declared.any_type.AnyType.TheVariants.{Plain}
use Rattle.btreekv_types.specs.declared.plain_type.PlainType.TheVariants.{U8, U16, U32, U64, I32, I64, Text, Bytes}
use Rattle.btreekv_types.proofs.Fits.{all_fit}
use Rattle.btreekv_types.proofs.Pairs.{own_values, whole_at, with_key}
use Rattle.btreekv_types.proofs.sourced.text_of_value.Goals as goal

pub find_with-requires : goal.find_with-requires
find_with-requires g c = all_fit (Plain U8) (Plain c.args.archive.types.value)

pub returns-in-U8 : goal.returns-in-U8
returns-in-U8 g c = rw (with_key c.args.archive.types U8 c.in-U8.is) (record {
  ok = λ b is. IfOk-weaker c.find_with.result _ _ (λ r h. h (λ v. v) (own_values (Plain U8)) (whole_at (Plain U8) (Plain c.args.archive.types.value))) (c.find_with.ensures.ok b is.source is.position);
  err = λ b is. IfErr-weaker c.find_with.result _ _ (λ fault h. h (λ v. v) (own_values (Plain U8)) (whole_at (Plain U8) (Plain c.args.archive.types.value))) (c.find_with.ensures.err b is.source is.position);
  same = rw (with_key c.args.archive.types U8 c.in-U8.is) at c.find_with.ensures.same;
})

pub find_with-requires-in-U16 : goal.find_with-requires-in-U16
find_with-requires-in-U16 g c = all_fit (Plain U16) (Plain c.args.archive.types.value)

pub returns-in-U16 : goal.returns-in-U16
returns-in-U16 g c = rw (with_key c.args.archive.types U16 c.in-U16.is) (record {
  ok = λ b is. IfOk-weaker c.find_with-in-U16.result _ _ (λ r h. h (λ v. v) (own_values (Plain U16)) (whole_at (Plain U16) (Plain c.args.archive.types.value))) (c.find_with-in-U16.ensures.ok b is.source is.position);
  err = λ b is. IfErr-weaker c.find_with-in-U16.result _ _ (λ fault h. h (λ v. v) (own_values (Plain U16)) (whole_at (Plain U16) (Plain c.args.archive.types.value))) (c.find_with-in-U16.ensures.err b is.source is.position);
  same = rw (with_key c.args.archive.types U16 c.in-U16.is) at c.find_with-in-U16.ensures.same;
})

pub find_with-requires-in-U32 : goal.find_with-requires-in-U32
find_with-requires-in-U32 g c = all_fit (Plain U32) (Plain c.args.archive.types.value)

pub returns-in-U32 : goal.returns-in-U32
returns-in-U32 g c = rw (with_key c.args.archive.types U32 c.in-U32.is) (record {
  ok = λ b is. IfOk-weaker c.find_with-in-U32.result _ _ (λ r h. h (λ v. v) (own_values (Plain U32)) (whole_at (Plain U32) (Plain c.args.archive.types.value))) (c.find_with-in-U32.ensures.ok b is.source is.position);
  err = λ b is. IfErr-weaker c.find_with-in-U32.result _ _ (λ fault h. h (λ v. v) (own_values (Plain U32)) (whole_at (Plain U32) (Plain c.args.archive.types.value))) (c.find_with-in-U32.ensures.err b is.source is.position);
  same = rw (with_key c.args.archive.types U32 c.in-U32.is) at c.find_with-in-U32.ensures.same;
})

pub find_with-requires-in-U64 : goal.find_with-requires-in-U64
find_with-requires-in-U64 g c = all_fit (Plain U64) (Plain c.args.archive.types.value)

pub returns-in-U64 : goal.returns-in-U64
returns-in-U64 g c = rw (with_key c.args.archive.types U64 c.in-U64.is) (record {
  ok = λ b is. IfOk-weaker c.find_with-in-U64.result _ _ (λ r h. h (λ v. v) (own_values (Plain U64)) (whole_at (Plain U64) (Plain c.args.archive.types.value))) (c.find_with-in-U64.ensures.ok b is.source is.position);
  err = λ b is. IfErr-weaker c.find_with-in-U64.result _ _ (λ fault h. h (λ v. v) (own_values (Plain U64)) (whole_at (Plain U64) (Plain c.args.archive.types.value))) (c.find_with-in-U64.ensures.err b is.source is.position);
  same = rw (with_key c.args.archive.types U64 c.in-U64.is) at c.find_with-in-U64.ensures.same;
})

pub find_with-requires-in-I32 : goal.find_with-requires-in-I32
find_with-requires-in-I32 g c = all_fit (Plain I32) (Plain c.args.archive.types.value)

pub returns-in-I32 : goal.returns-in-I32
returns-in-I32 g c = rw (with_key c.args.archive.types I32 c.in-I32.is) (record {
  ok = λ b is. IfOk-weaker c.find_with-in-I32.result _ _ (λ r h. h (λ v. v) (own_values (Plain I32)) (whole_at (Plain I32) (Plain c.args.archive.types.value))) (c.find_with-in-I32.ensures.ok b is.source is.position);
  err = λ b is. IfErr-weaker c.find_with-in-I32.result _ _ (λ fault h. h (λ v. v) (own_values (Plain I32)) (whole_at (Plain I32) (Plain c.args.archive.types.value))) (c.find_with-in-I32.ensures.err b is.source is.position);
  same = rw (with_key c.args.archive.types I32 c.in-I32.is) at c.find_with-in-I32.ensures.same;
})

pub find_with-requires-in-I64 : goal.find_with-requires-in-I64
find_with-requires-in-I64 g c = all_fit (Plain I64) (Plain c.args.archive.types.value)

pub returns-in-I64 : goal.returns-in-I64
returns-in-I64 g c = rw (with_key c.args.archive.types I64 c.in-I64.is) (record {
  ok = λ b is. IfOk-weaker c.find_with-in-I64.result _ _ (λ r h. h (λ v. v) (own_values (Plain I64)) (whole_at (Plain I64) (Plain c.args.archive.types.value))) (c.find_with-in-I64.ensures.ok b is.source is.position);
  err = λ b is. IfErr-weaker c.find_with-in-I64.result _ _ (λ fault h. h (λ v. v) (own_values (Plain I64)) (whole_at (Plain I64) (Plain c.args.archive.types.value))) (c.find_with-in-I64.ensures.err b is.source is.position);
  same = rw (with_key c.args.archive.types I64 c.in-I64.is) at c.find_with-in-I64.ensures.same;
})

pub find_with-requires-in-Text : goal.find_with-requires-in-Text
find_with-requires-in-Text g c = all_fit (Plain Text) (Plain c.args.archive.types.value)

pub returns-in-Text : goal.returns-in-Text
returns-in-Text g c = rw (with_key c.args.archive.types Text c.in-Text.is) (record {
  ok = λ b is. IfOk-weaker c.find_with-in-Text.result _ _ (λ r h. h (λ v. v) (own_values (Plain Text)) (whole_at (Plain Text) (Plain c.args.archive.types.value))) (c.find_with-in-Text.ensures.ok b is.source is.position);
  err = λ b is. IfErr-weaker c.find_with-in-Text.result _ _ (λ fault h. h (λ v. v) (own_values (Plain Text)) (whole_at (Plain Text) (Plain c.args.archive.types.value))) (c.find_with-in-Text.ensures.err b is.source is.position);
  same = rw (with_key c.args.archive.types Text c.in-Text.is) at c.find_with-in-Text.ensures.same;
})

pub find_with-requires-in-Bytes : goal.find_with-requires-in-Bytes
find_with-requires-in-Bytes g c = all_fit (Plain Bytes) (Plain c.args.archive.types.value)

pub returns-in-Bytes : goal.returns-in-Bytes
returns-in-Bytes g c = rw (with_key c.args.archive.types Bytes c.in-Bytes.is) (record {
  ok = λ b is. IfOk-weaker c.find_with-in-Bytes.result _ _ (λ r h. h (λ v. v) (own_values (Plain Bytes)) (whole_at (Plain Bytes) (Plain c.args.archive.types.value))) (c.find_with-in-Bytes.ensures.ok b is.source is.position);
  err = λ b is. IfErr-weaker c.find_with-in-Bytes.result _ _ (λ fault h. h (λ v. v) (own_values (Plain Bytes)) (whole_at (Plain Bytes) (Plain c.args.archive.types.value))) (c.find_with-in-Bytes.ensures.err b is.source is.position);
  same = rw (with_key c.args.archive.types Bytes c.in-Bytes.is) at c.find_with-in-Bytes.ensures.same;
})
