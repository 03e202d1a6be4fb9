-- Each type of keys has its own call.
use Rattle.btreekv_types.specs.declared.any_type.AnyType.TheVariants.{Plain, Tuple}
use Rattle.btreekv_types.specs.declared.tuple_type.TupleType.TheVariants.{PairU32U32, PairU64U64, PairU32Text, TripleU32, TripleU64}
use Rattle.btreekv_types.specs.AnyTypes.{plain_of}
use Rattle.btreekv_types.proofs.Fits.{all_fit}
use Rattle.btreekv_types.proofs.Pairs.{own_values, whole_at}
use Rattle.btreekv_types.proofs.types.run_tuple_keys.Goals as goal

pub run_to_common-requires : goal.run_to_common-requires
run_to_common-requires g c = all_fit (Tuple PairU32U32) (Plain (plain_of c.args.value))

pub returns-in-PairU32U32 : goal.returns-in-PairU32U32
returns-in-PairU32U32 g c = rw c.in-PairU32U32.is (c.run_to_common.ensures (λ v. v) (own_values (Tuple PairU32U32)) (whole_at (Tuple PairU32U32) (Plain (plain_of c.args.value))))

pub run_to_common-requires-in-PairU64U64 : goal.run_to_common-requires-in-PairU64U64
run_to_common-requires-in-PairU64U64 g c = all_fit (Tuple PairU64U64) (Plain (plain_of c.args.value))

pub returns-in-PairU64U64 : goal.returns-in-PairU64U64
returns-in-PairU64U64 g c = rw c.in-PairU64U64.is (c.run_to_common-in-PairU64U64.ensures (λ v. v) (own_values (Tuple PairU64U64)) (whole_at (Tuple PairU64U64) (Plain (plain_of c.args.value))))

pub run_to_common-requires-in-PairU32Text : goal.run_to_common-requires-in-PairU32Text
run_to_common-requires-in-PairU32Text g c = all_fit (Tuple PairU32Text) (Plain (plain_of c.args.value))

pub returns-in-PairU32Text : goal.returns-in-PairU32Text
returns-in-PairU32Text g c = rw c.in-PairU32Text.is (c.run_to_common-in-PairU32Text.ensures (λ v. v) (own_values (Tuple PairU32Text)) (whole_at (Tuple PairU32Text) (Plain (plain_of c.args.value))))

pub run_to_common-requires-in-TripleU32 : goal.run_to_common-requires-in-TripleU32
run_to_common-requires-in-TripleU32 g c = all_fit (Tuple TripleU32) (Plain (plain_of c.args.value))

pub returns-in-TripleU32 : goal.returns-in-TripleU32
returns-in-TripleU32 g c = rw c.in-TripleU32.is (c.run_to_common-in-TripleU32.ensures (λ v. v) (own_values (Tuple TripleU32)) (whole_at (Tuple TripleU32) (Plain (plain_of c.args.value))))

pub run_to_common-requires-in-TripleU64 : goal.run_to_common-requires-in-TripleU64
run_to_common-requires-in-TripleU64 g c = all_fit (Tuple TripleU64) (Plain (plain_of c.args.value))

pub returns-in-TripleU64 : goal.returns-in-TripleU64
returns-in-TripleU64 g c = rw c.in-TripleU64.is (c.run_to_common-in-TripleU64.ensures (λ v. v) (own_values (Tuple TripleU64)) (whole_at (Tuple TripleU64) (Plain (plain_of c.args.value))))
