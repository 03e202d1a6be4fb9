-- Each type of values has its own call.
use Rattle.btreekv_types.specs.declared.any_type.AnyType.TheVariants.{Tuple}
use Rattle.btreekv_types.specs.declared.tuple_type.TupleType.TheVariants.{PairU32U32, PairU64U64, PairU32Text, TripleU32, TripleU64}
use Rattle.btreekv_types.proofs.Pairs.{own_values}
use Rattle.btreekv_types.proofs.types.run_to_tuple.Goals as goal

pub run_of-requires : goal.run_of-requires
run_of-requires g c = rw c.in-PairU32U32.is at c.requires

pub returns-in-PairU32U32 : goal.returns-in-PairU32U32
returns-in-PairU32U32 g c = rw c.in-PairU32U32.is (λ key_to keys maps. c.run_of.ensures key_to (λ v. v) keys (own_values (Tuple PairU32U32)) maps)

pub run_of-requires-in-PairU64U64 : goal.run_of-requires-in-PairU64U64
run_of-requires-in-PairU64U64 g c = rw c.in-PairU64U64.is at c.requires

pub returns-in-PairU64U64 : goal.returns-in-PairU64U64
returns-in-PairU64U64 g c = rw c.in-PairU64U64.is (λ key_to keys maps. c.run_of-in-PairU64U64.ensures key_to (λ v. v) keys (own_values (Tuple PairU64U64)) maps)

pub run_of-requires-in-PairU32Text : goal.run_of-requires-in-PairU32Text
run_of-requires-in-PairU32Text g c = rw c.in-PairU32Text.is at c.requires

pub returns-in-PairU32Text : goal.returns-in-PairU32Text
returns-in-PairU32Text g c = rw c.in-PairU32Text.is (λ key_to keys maps. c.run_of-in-PairU32Text.ensures key_to (λ v. v) keys (own_values (Tuple PairU32Text)) maps)

pub run_of-requires-in-TripleU32 : goal.run_of-requires-in-TripleU32
run_of-requires-in-TripleU32 g c = rw c.in-TripleU32.is at c.requires

pub returns-in-TripleU32 : goal.returns-in-TripleU32
returns-in-TripleU32 g c = rw c.in-TripleU32.is (λ key_to keys maps. c.run_of-in-TripleU32.ensures key_to (λ v. v) keys (own_values (Tuple TripleU32)) maps)

pub run_of-requires-in-TripleU64 : goal.run_of-requires-in-TripleU64
run_of-requires-in-TripleU64 g c = rw c.in-TripleU64.is at c.requires

pub returns-in-TripleU64 : goal.returns-in-TripleU64
returns-in-TripleU64 g c = rw c.in-TripleU64.is (λ key_to keys maps. c.run_of-in-TripleU64.ensures key_to (λ v. v) keys (own_values (Tuple TripleU64)) maps)
