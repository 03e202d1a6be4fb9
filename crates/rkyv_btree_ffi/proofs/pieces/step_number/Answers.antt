-- Each type of keys has its own call.
use Rattle.std.proofs.Common.{◌≡◌, refl, subst, arith, rules, ℕ}
use Rattle.std.proofs.lemmas.Int.{of_z-to_z}
use Rattle.std.specs.Int.{w64, cast_signed, cast_unsigned}
use Rattle.std.specs.Ordering.{int_cmp}
use Rattle.rkyv_btree_ffi.specs.Entries.{by_number_at}
use Rattle.rkyv_btree_ffi.specs.MapTypes.{typed}
use Rattle.rkyv_btree_ffi.specs.Pieces.{StepsOf}
use Rattle.rkyv_btree_ffi.specs.declared.map_type.ItemType.TheVariants.{U32, U64, I64}
use Rattle.rkyv_btree_ffi.proofs.Fits.{all_fit}
use Rattle.rkyv_btree_ffi.proofs.Stepped.{steps_of}
use Rattle.rkyv_btree_ffi.proofs.Types.{with_key}
use Rattle.rkyv_btree_ffi.proofs.pieces.step_number.Goals as goal

pub step_with-requires : goal.step_with-requires
step_with-requires c = all_fit U32 c.args.map_type.value

pub returns-in-U32-Ok-clause-gives : goal.returns-in-U32-Ok-clause-gives
returns-in-U32-Ok-clause-gives c = λ b e.
    let t = typed U32 c.args.map_type.value in
    let same : c.in-U32-Ok.key ≡ c.args.key = omega (arith, c.in-U32-Ok.ensures) in
    let gives = steps_of t b c.step_with.new.buffer (by_number_at U32 c.in-U32-Ok.key) c.step_with.result (c.step_with.ensures.gives b e (by_number_at U32) (λ n c at. refl)) in
    rw (with_key c.args.map_type U32 c.in-U32-Ok.is-0) (subst (λ (n : ℕ). StepsOf t b (by_number_at U32 n) c.step_with.new.buffer c.step_with.result) same gives)

pub step_with-requires-in-U64-default : goal.step_with-requires-in-U64-default
step_with-requires-in-U64-default c = all_fit U64 c.args.map_type.value

pub returns-in-U64-default-clause-gives : goal.returns-in-U64-default-clause-gives
returns-in-U64-default-clause-gives c = λ b e.
    let t = typed U64 c.args.map_type.value in
    rw (with_key c.args.map_type U64 c.in-U64-default.is-0) (steps_of t b c.step_with-in-U64-default.new.buffer (by_number_at U64 c.args.key) c.step_with-in-U64-default.result (c.step_with-in-U64-default.ensures.gives b e (by_number_at U64) (λ n c at. refl)))

pub step_with-requires-in-I64-default : goal.step_with-requires-in-I64-default
step_with-requires-in-I64-default c = all_fit I64 c.args.map_type.value

pub returns-in-I64-default-clause-gives : goal.returns-in-I64-default-clause-gives
returns-in-I64-default-clause-gives c = λ b e.
    let t = typed I64 c.args.map_type.value in
    let once : cast_unsigned w64 (cast_signed w64 c.args.key) ≡ c.args.key = of_z-to_z w64 c.args.key (omega arith) in
    let same : cast_unsigned w64 c.cast_signed.result ≡ c.args.key = search (rules, once) in
    let gives = steps_of t b c.step_with-in-I64-default.new.buffer (by_number_at I64 (cast_unsigned w64 c.cast_signed.result)) c.step_with-in-I64-default.result (c.step_with-in-I64-default.ensures.gives b e int_cmp (λ n c at. refl)) in
    rw (with_key c.args.map_type I64 c.in-I64-default.is-0) (subst (λ (n : ℕ). StepsOf t b (by_number_at I64 n) c.step_with-in-I64-default.new.buffer c.step_with-in-I64-default.result) same gives)
