-- What the call refuses.
use Rattle.std.proofs.Common.{refl, rules}
use Rattle.rkyv_btree_ffi.proofs.opening.opened_strict.Goals as goal

pub returns-in-Err : goal.returns-in-Err
returns-in-Err g c = ((c.in-Err.ensures.exact.refuses _).0 refl, λ m is up. let ok = c.in-Err.ensures.exact.accepts.1 (m, (is, up)) in absurd (search (rules, ok)))
