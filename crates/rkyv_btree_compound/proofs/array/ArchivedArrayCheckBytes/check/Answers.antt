-- An array is refused at its position, or at the first element that means nothing.
use Rattle.std.proofs.lemmas.Result.{err_from_is_err_and}
use Rattle.rkyv_btree_compound.specs.Arrays.{misplaced_array, bad_element}
use Rattle.rkyv_btree_compound.specs.laws.ElementLaws.{elements_within}
use Rattle.rkyv_btree_compound.proofs.array.ArchivedArrayCheckBytes.check.Goals as goal

pub returns-in_err-check_place-clause-err : goal.returns-in_err-check_place-clause-err
returns-in_err-check_place-clause-err g c =
    let p = err_from_is_err_and c.from_residual.result c.from_residual.ensures.1 in
    rw (p.1, p.2) (misplaced_array c.in_err-check_place.ensures.err)

pub returns-in_err-lo-clause-err : goal.returns-in_err-lo-clause-err
returns-in_err-lo-clause-err g c =
    let bad = c.in_err-lo.ensures.err in
    let p = err_from_is_err_and c.from_residual-in_err-lo.result c.from_residual-in_err-lo.ensures.1 in
    rw (p.1, p.2, bad.2) (bad_element c.in_ok-check_place.ensures.ok bad.1)

pub returns-clause-ok : goal.returns-clause-ok
returns-clause-ok g c =
    let own = c.in_ok-check_place.ensures.ok in
    let row = c.in_ok-lo.ensures.ok in
    let within = elements_within g.T.Portable.kind g.met.T.Portable.laws _ _ _ _ _ row.0 c.requires.ordered row.2 in
    (row.0, record { lies = record { short = own.short; inside = own.room; aligned = own.aligned; forward = within.0; kept = within.1; before = c.requires.before }; count = row.1; elements = row.2 })
