-- Own bytes that the test doesn't take are no value.
use Rattle.std.proofs.Common.{sym, ◌∙◌}
use Rattle.std.proofs.lemmas.Result.{err_from_is_err_and}
use Rattle.rkyv_btree_portable.specs.Refusing.{HasPlace, Misplaced, misplaced, bad_entry}
use Rattle.rkyv_btree_portable.proofs.check.check_in_place.Goals as goal

pub returns-in_err-check_own_bytes-clause-err : goal.returns-in_err-check_own_bytes-clause-err
returns-in_err-check_own_bytes-clause-err g c =
    let plain = g.T.Scalar.form.plain in
    let p = err_from_is_err_and c.from_residual.result c.from_residual.ensures.1 in
    let told : Misplaced c.args.buf.now plain.size plain.align c.args.pos c.in_err-check_own_bytes.field-0.0 = rw (← c.size_and_align-size.ensures.size, ← c.size_and_align-size.ensures.align) c.in_err-check_own_bytes.ensures.err in
    rw (p.1, p.2) (misplaced told)

pub returns-else-is_value-clause-err : goal.returns-else-is_value-clause-err
returns-else-is_value-clause-err g c =
    let plain = g.T.Scalar.form.plain in
    let has : HasPlace c.args.buf.now plain.size plain.align c.args.pos = rw (← c.size_and_align-size.ensures.size, ← c.size_and_align-size.ensures.align) c.in_ok-check_own_bytes.ensures.ok in
    bad_entry has (λ left v m. cc (sym m.is_value ∙ sym c.is_value.ensures ∙ c.if-is_value.false))
