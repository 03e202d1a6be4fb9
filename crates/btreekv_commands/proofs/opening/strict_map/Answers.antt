use Rattle.std.proofs.Common.{refl}
use Rattle.btreekv_commands.proofs.opening.strict_map.Goals as goal

pub returns-in-Err-clause-err : goal.returns-in-Err-clause-err
returns-in-Err-clause-err c = record {
  first = (c.in-Err.ensures.exact.refuses _).0 refl;
  none = λ entries is increase. absurd (cc (c.in-Err.ensures.exact.accepts.1 (entries, (is, increase))));
}
