-- Elements that have no room refuse the vector at its position, and one that means nothing refuses it at its own.
use Rattle.std.proofs.Common.{ℕ, subst}
use Rattle.std.proofs.lemmas.Result.{err_from_is_err_and}
use Rattle.rkyv_btree_compound.specs.Elements.{FirstBad}
use Rattle.rkyv_btree_compound.specs.Vectors.{misplaced_vector, no_elements, bad_element}
use Rattle.rkyv_btree_compound.proofs.vector.ArchivedVecCheckBytes.check.Goals as goal

pub returns-in_err-check_place-clause-err : goal.returns-in_err-check_place-clause-err
returns-in_err-check_place-clause-err g c =
    let p = err_from_is_err_and c.from_residual.result c.from_residual.ensures.1 in
    rw (p.1, p.2) (misplaced_vector c.in_err-check_place.ensures.err)

pub returns-in_default-clause-err : goal.returns-in_default-clause-err
returns-in_default-clause-err g c = no_elements c.in_ok-check_place.ensures.ok c.in_default.ensures.outside

pub returns-in_err-check_elements-clause-err : goal.returns-in_err-check_elements-clause-err
returns-in_err-check_elements-clause-err g c =
    let p = err_from_is_err_and c.from_residual-in_err-check_elements.result c.from_residual-in_err-check_elements.ensures.1 in
    let bad = c.in_err-check_elements.ensures.err in
    let first = subst (λ (n : ℕ). FirstBad g.T.Portable.kind c.args.buf.now n c.args.window.lo c.in-Some.row.lo c.in-Some.row.lo bad.0) c.num32-count.ensures bad.1 in
    rw (p.1, p.2, bad.2) (bad_element c.in_ok-check_place.ensures.ok c.in-Some.ensures.range.0 first)
