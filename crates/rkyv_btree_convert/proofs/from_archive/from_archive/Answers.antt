-- All archives are opened, so what isn't opened is none.
use Rattle.std.proofs.Common.{refl}
use Rattle.std.proofs.lemmas.Result.{err_from_is_err_and}
use Rattle.rkyv_btree_convert.proofs.from_archive.from_archive.Goals as goal

pub returns-in_err-view-clause-err : goal.returns-in_err-view-clause-err
returns-in_err-view-clause-err g c =
    let p = err_from_is_err_and c.from_residual.result c.from_residual.ensures.1 in
    rw (p.1, p.2) ((c.in_err-view.ensures.refuses _).0 refl, λ v archive. absurd (cc (c.in_err-view.ensures.accepts.1 (v, archive))))
