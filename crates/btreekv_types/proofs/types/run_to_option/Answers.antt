-- Each type of values has its own call.
use Rattle.btreekv_types.specs.declared.any_type.AnyType.TheVariants.{Optional}
use Rattle.btreekv_types.specs.declared.option_type.OptionType.TheVariants.{U32, U64, I64}
use Rattle.btreekv_types.proofs.Pairs.{own_values}
use Rattle.btreekv_types.proofs.types.run_to_option.Goals as goal

pub run_of-requires : goal.run_of-requires
run_of-requires g c = rw c.in-U32.is at c.requires

pub returns-in-U32 : goal.returns-in-U32
returns-in-U32 g c = rw c.in-U32.is (λ key_to keys maps. c.run_of.ensures key_to (λ v. v) keys (own_values (Optional U32)) maps)

pub run_of-requires-in-U64 : goal.run_of-requires-in-U64
run_of-requires-in-U64 g c = rw c.in-U64.is at c.requires

pub returns-in-U64 : goal.returns-in-U64
returns-in-U64 g c = rw c.in-U64.is (λ key_to keys maps. c.run_of-in-U64.ensures key_to (λ v. v) keys (own_values (Optional U64)) maps)

pub run_of-requires-in-I64 : goal.run_of-requires-in-I64
run_of-requires-in-I64 g c = rw c.in-I64.is at c.requires

pub returns-in-I64 : goal.returns-in-I64
returns-in-I64 g c = rw c.in-I64.is (λ key_to keys maps. c.run_of-in-I64.ensures key_to (λ v. v) keys (own_values (Optional I64)) maps)
