use Rattle.std.proofs.Common.{refl}
use Rattle.rkyv_btree_typed.proofs.open_typed.open_typed_strict.Goals as goal

pub returns-in-Err-clause-exact : goal.returns-in-Err-clause-exact
returns-in-Err-clause-exact g c = record {
  accepts = (λ no. cc no, λ h. absurd (cc (c.in-Err.ensures.exact.accepts.1 h.1)));
  refuses = (c.in_ok-check_type.ensures.accepts.0 refl, (c.in-Err.ensures.exact.refuses c.in-Err.refusal).0 refl);
}
