-- A first field is refused at its position.
use Rattle.std.proofs.lemmas.Result.{err_from_is_err_and}
use Rattle.rkyv_btree_compound.specs.Tuples.{bad_first}
use Rattle.rkyv_btree_portable.proofs.Parts.{part_refused, part_accepted}
use Rattle.rkyv_btree_compound.proofs.front.FirstCheckFront.check_front.Goals as goal

pub returns-in_err-left-clause-err : goal.returns-in_err-left-clause-err
returns-in_err-left-clause-err g c =
    let bad = part_refused g.A.Portable.kind g.met.A.Portable.laws c.requires.fitting _ _ _ _ _ c.in_err-left.ensures.gives in
    let p = err_from_is_err_and c.from_residual.result c.from_residual.ensures.1 in
    rw (p.1, p.2, bad.0) (bad_first bad.1)

pub returns-clause-ok : goal.returns-clause-ok
returns-clause-ok g c = part_accepted g.A.Portable.kind g.met.A.Portable.laws c.requires.fitting _ _ _ _ _ c.requires.ordered c.requires.before c.in_ok-left.ensures.gives
