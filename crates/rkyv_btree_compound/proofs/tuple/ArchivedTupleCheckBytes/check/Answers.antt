-- What refuses a field refuses the tuple at the field's position.
use Rattle.std.proofs.lemmas.Result.{err_from_is_err_and}
use Rattle.rkyv_btree_compound.specs.Tuples.{misplaced_tuple, bad_field, tuple_size}
use Rattle.rkyv_btree_compound.specs.laws.JoinedLaws.{laid_out_of, joined_of_parts}
use Rattle.rkyv_btree_compound.specs.laws.TupleLaws.{fields_fit, last_inside, fields_place}
use Rattle.rkyv_btree_compound.proofs.tuple.ArchivedTupleCheckBytes.check.Goals as goal

pub returns-in_err-check_place-clause-err : goal.returns-in_err-check_place-clause-err
returns-in_err-check_place-clause-err g c =
    let p = err_from_is_err_and c.from_residual.result c.from_residual.ensures.1 in
    rw (p.1, p.2) (misplaced_tuple c.in_err-check_place.ensures.err)

pub check_next-requires-clause-fitting : goal.check_next-requires-clause-fitting
check_next-requires-clause-fitting g c =
    let P = g.P.TupleFront.kind in
    let L = g.L.Portable.kind in
    let p = g.met.P.TupleFront.laid_out in
    let l = laid_out_of g.met.L.Portable.laws in
    fields_fit P L p l (tuple_size P L) (last_inside P L p l) c.requires.fitting

pub check_next-requires-clause-place : goal.check_next-requires-clause-place
check_next-requires-clause-place g c = fields_place g.P.TupleFront.kind g.L.Portable.kind g.met.P.TupleFront.laid_out (laid_out_of g.met.L.Portable.laws) _ _ c.in_ok-check_place.ensures.ok

pub returns-in_err-lo-clause-err : goal.returns-in_err-lo-clause-err
returns-in_err-lo-clause-err g c =
    let p = err_from_is_err_and c.from_residual-in_err-lo.result c.from_residual-in_err-lo.ensures.1 in
    rw (p.1, p.2) (bad_field c.in_ok-check_place.ensures.ok c.in_err-lo.ensures.err)

pub returns-clause-ok : goal.returns-clause-ok
returns-clause-ok g c =
    let P = g.P.TupleFront.kind in
    let L = g.L.Portable.kind in
    let p = g.met.P.TupleFront.laid_out in
    let l = laid_out_of g.met.L.Portable.laws in
    let m = c.in_ok-lo.ensures.ok in
    (m.0, joined_of_parts P L p l (tuple_size P L) (last_inside P L p l) _ _ _ _ _ m.0.0 m.0.1 c.requires.before c.in_ok-check_place.ensures.ok m.1.parts)
