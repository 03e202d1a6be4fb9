use Rattle.std.proofs.Common.{arith}
use Rattle.btreekv_items.proofs.Written.{no_number}
use Rattle.btreekv_items.proofs.unsigned.ArchivedU32Item.parse.Goals as goal

pub returns-clause-none : goal.returns-clause-none
returns-clause-none c = no_number 32 c.args.text.now c.number_of.result (omega arith) (λ r parses. parses.0) c.number_of.ensures.none
