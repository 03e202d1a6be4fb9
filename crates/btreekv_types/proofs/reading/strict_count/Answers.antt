use Rattle.std.proofs.Common.{refl}
use Rattle.btreekv_types.proofs.reading.strict_count.Goals as goal

pub returns-in-Err-open_strict-clause-err : goal.returns-in-Err-open_strict-clause-err
returns-in-Err-open_strict-clause-err g c = record {
  first = (c.in-Err-open_strict.ensures.exact.refuses _).0 refl;
  none = λ entries is increase. absurd (cc (c.in-Err-open_strict.ensures.exact.accepts.1 (entries, (is, increase))));
}
