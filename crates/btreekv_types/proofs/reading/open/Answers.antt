use Rattle.std.proofs.Common.{refl}
use Rattle.btreekv_types.proofs.reading.open.Goals as goal

pub returns-in-Err-open-clause-err : goal.returns-in-Err-open-clause-err
returns-in-Err-open-clause-err g c = record {
  first = (c.in-Err-open.ensures.refuses _).0 refl;
  none = λ entries is. absurd (cc (c.in-Err-open.ensures.accepts.1 (entries, is)));
}
