-- Each type of keys has its own call.
use Rattle.btreekv_types.specs.declared.any_type.AnyType.TheVariants.{Optional, Plain}
use Rattle.btreekv_types.specs.declared.plain_type.PlainType.TheVariants.{U32, U64, Text}
use Rattle.btreekv_types.proofs.Fits.{all_fit}
use Rattle.btreekv_types.proofs.Pairs.{own_values, whole_at}
use Rattle.btreekv_types.proofs.types.run_to_options.Goals as goal

pub run_to_option-requires : goal.run_to_option-requires
run_to_option-requires g c = all_fit (Plain U32) (Optional c.args.value)

pub returns-in-U32 : goal.returns-in-U32
returns-in-U32 g c = rw c.in-U32.is (c.run_to_option.ensures (λ v. v) (own_values (Plain U32)) (whole_at (Plain U32) (Optional c.args.value)))

pub run_to_option-requires-in-U64 : goal.run_to_option-requires-in-U64
run_to_option-requires-in-U64 g c = all_fit (Plain U64) (Optional c.args.value)

pub returns-in-U64 : goal.returns-in-U64
returns-in-U64 g c = rw c.in-U64.is (c.run_to_option-in-U64.ensures (λ v. v) (own_values (Plain U64)) (whole_at (Plain U64) (Optional c.args.value)))

pub run_to_option-requires-in-Text : goal.run_to_option-requires-in-Text
run_to_option-requires-in-Text g c = all_fit (Plain Text) (Optional c.args.value)

pub returns-in-Text : goal.returns-in-Text
returns-in-Text g c = rw c.in-Text.is (c.run_to_option-in-Text.ensures (λ v. v) (own_values (Plain Text)) (whole_at (Plain Text) (Optional c.args.value)))
