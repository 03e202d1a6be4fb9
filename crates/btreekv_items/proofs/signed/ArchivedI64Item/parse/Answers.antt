use Rattle.std.proofs.Common.{arith}
use Rattle.std.specs.Int.{w64}
use Rattle.btreekv_items.proofs.Written.{no_signed}
use Rattle.btreekv_items.proofs.signed.ArchivedI64Item.parse.Goals as goal

pub returns-clause-none : goal.returns-clause-none
returns-clause-none c =
    no_signed w64 c.args.text.now c.number_of.result (λ z fits. omega (arith, fits.sfits)) (λ r parses. parses.0) c.number_of.ensures.none
