-- Each type of keys has its own call.
use Rattle.std.proofs.lemmas.Result.{IfOk-weaker, IfErr-weaker}
use Rattle.btreekv_types.specs.AnyTypes.{plain_of}
use Rattle.btreekv_types.specs.declared.any_type.AnyType.TheVariants.{Plain, Tuple}
use Rattle.btreekv_types.specs.declared.tuple_type.TupleType.TheVariants.{PairU32U32, PairU64U64, PairU32Text, TripleU32, TripleU64}
use Rattle.btreekv_types.proofs.Fits.{all_fit}
use Rattle.btreekv_types.proofs.Pairs.{own_values, whole_at}
use Rattle.btreekv_types.proofs.overwriting_types.overwrite_tuple_keys.Goals as goal

pub overwrite_common-requires : goal.overwrite_common-requires
overwrite_common-requires c = all_fit (Tuple PairU32U32) (Plain (plain_of c.args.to))

pub returns-in-PairU32U32 : goal.returns-in-PairU32U32
returns-in-PairU32U32 c = rw c.in-PairU32U32.is (record {
  ok = IfOk-weaker c.overwrite_common.result _ _ (λ r h. h (λ v. v) (own_values (Tuple PairU32U32)) (whole_at (Tuple PairU32U32) (Plain (plain_of c.args.to)))) c.overwrite_common.ensures.ok;
  err = IfErr-weaker c.overwrite_common.result _ _ (λ fault h. h (λ v. v) (own_values (Tuple PairU32U32)) (whole_at (Tuple PairU32U32) (Plain (plain_of c.args.to)))) c.overwrite_common.ensures.err;
})

pub overwrite_common-requires-in-PairU64U64 : goal.overwrite_common-requires-in-PairU64U64
overwrite_common-requires-in-PairU64U64 c = all_fit (Tuple PairU64U64) (Plain (plain_of c.args.to))

pub returns-in-PairU64U64 : goal.returns-in-PairU64U64
returns-in-PairU64U64 c = rw c.in-PairU64U64.is (record {
  ok = IfOk-weaker c.overwrite_common-in-PairU64U64.result _ _ (λ r h. h (λ v. v) (own_values (Tuple PairU64U64)) (whole_at (Tuple PairU64U64) (Plain (plain_of c.args.to)))) c.overwrite_common-in-PairU64U64.ensures.ok;
  err = IfErr-weaker c.overwrite_common-in-PairU64U64.result _ _ (λ fault h. h (λ v. v) (own_values (Tuple PairU64U64)) (whole_at (Tuple PairU64U64) (Plain (plain_of c.args.to)))) c.overwrite_common-in-PairU64U64.ensures.err;
})

pub overwrite_common-requires-in-PairU32Text : goal.overwrite_common-requires-in-PairU32Text
overwrite_common-requires-in-PairU32Text c = all_fit (Tuple PairU32Text) (Plain (plain_of c.args.to))

pub returns-in-PairU32Text : goal.returns-in-PairU32Text
returns-in-PairU32Text c = rw c.in-PairU32Text.is (record {
  ok = IfOk-weaker c.overwrite_common-in-PairU32Text.result _ _ (λ r h. h (λ v. v) (own_values (Tuple PairU32Text)) (whole_at (Tuple PairU32Text) (Plain (plain_of c.args.to)))) c.overwrite_common-in-PairU32Text.ensures.ok;
  err = IfErr-weaker c.overwrite_common-in-PairU32Text.result _ _ (λ fault h. h (λ v. v) (own_values (Tuple PairU32Text)) (whole_at (Tuple PairU32Text) (Plain (plain_of c.args.to)))) c.overwrite_common-in-PairU32Text.ensures.err;
})

pub overwrite_common-requires-in-TripleU32 : goal.overwrite_common-requires-in-TripleU32
overwrite_common-requires-in-TripleU32 c = all_fit (Tuple TripleU32) (Plain (plain_of c.args.to))

pub returns-in-TripleU32 : goal.returns-in-TripleU32
returns-in-TripleU32 c = rw c.in-TripleU32.is (record {
  ok = IfOk-weaker c.overwrite_common-in-TripleU32.result _ _ (λ r h. h (λ v. v) (own_values (Tuple TripleU32)) (whole_at (Tuple TripleU32) (Plain (plain_of c.args.to)))) c.overwrite_common-in-TripleU32.ensures.ok;
  err = IfErr-weaker c.overwrite_common-in-TripleU32.result _ _ (λ fault h. h (λ v. v) (own_values (Tuple TripleU32)) (whole_at (Tuple TripleU32) (Plain (plain_of c.args.to)))) c.overwrite_common-in-TripleU32.ensures.err;
})

pub overwrite_common-requires-in-TripleU64 : goal.overwrite_common-requires-in-TripleU64
overwrite_common-requires-in-TripleU64 c = all_fit (Tuple TripleU64) (Plain (plain_of c.args.to))

pub returns-in-TripleU64 : goal.returns-in-TripleU64
returns-in-TripleU64 c = rw c.in-TripleU64.is (record {
  ok = IfOk-weaker c.overwrite_common-in-TripleU64.result _ _ (λ r h. h (λ v. v) (own_values (Tuple TripleU64)) (whole_at (Tuple TripleU64) (Plain (plain_of c.args.to)))) c.overwrite_common-in-TripleU64.ensures.ok;
  err = IfErr-weaker c.overwrite_common-in-TripleU64.result _ _ (λ fault h. h (λ v. v) (own_values (Tuple TripleU64)) (whole_at (Tuple TripleU64) (Plain (plain_of c.args.to)))) c.overwrite_common-in-TripleU64.ensures.err;
})
