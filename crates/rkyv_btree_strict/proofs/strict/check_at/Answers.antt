-- The widest window is that of all bytes before the position.
use Rattle.std.proofs.Common.{ap, refl}
use Rattle.std.specs.Prelude.{Ok, Err}
use Rattle.rkyv_btree_portable.proofs.Exactly.{err_exactly}
use Rattle.rkyv_btree_strict.proofs.strict.check_at.Goals as goal

pub returns-in-Ok : goal.returns-in-Ok
returns-in-Ok g c =
    let is = (c.verify_strict.ensures.accepts _).0 c.in-Ok.is in
    record {
      accepts = ((λ ok. (is.1.0, record { map = (_, is.1.1); increasing = is.1.2 })), (λ m. refl));
      refuses = err_exactly _ (Ok _) tt (λ e refuses. absurd (cc (c.in-Ok.is, (c.verify_strict.ensures.refuses e).1 refuses)));
    }

pub returns-in-Err : goal.returns-in-Err
returns-in-Err g c =
    record {
      accepts = (
        (λ ok. absurd (cc ok)),
        (λ is. absurd (cc (c.in-Err.is, (c.verify_strict.ensures.accepts (record { lo = is.1.map.0; hi = c.args.pos })).1 (refl, (is.0, is.1.map.1, is.1.increasing))))),
      );
      refuses = err_exactly _ (Err _) ((c.verify_strict.ensures.refuses _).0 c.in-Err.is) (λ e refuses. ap Err (cc (c.in-Err.is, (c.verify_strict.ensures.refuses e).1 refuses)));
    }
