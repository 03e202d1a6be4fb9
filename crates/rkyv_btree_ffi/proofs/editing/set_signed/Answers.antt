-- What is written is the value.
use Rattle.std.proofs.Common.{◌≡◌, ◌∙◌, ap, arith, rules, ℕ}
use Rattle.std.specs.Int.{w64, cast_signed, cast_unsigned}
use Rattle.std.proofs.lemmas.Int.{of_z-to_z}
use Rattle.rkyv_btree_ffi.proofs.editing.set_signed.Goals as goal

pub returns-clause-sets : goal.returns-clause-sets
returns-clause-sets g c = λ compared same.
    let once : cast_unsigned w64 (cast_signed w64 c.args.value) ≡ c.args.value = of_z-to_z w64 c.args.value (omega arith) in
    let twice : cast_unsigned w64 (cast_signed w64 (cast_unsigned w64 (cast_signed w64 c.args.value))) ≡ c.args.value = ap (λ (n : ℕ). cast_unsigned w64 (cast_signed w64 n)) once ∙ once in
    (c.set.result, search (rules, once, twice, c.set.ensures.sets compared same), c.written.ensures)
