-- A tag other than 0 and 1 refuses the option at its position, and a value is refused at its own.
use Rattle.std.proofs.Common.{◌≡◌, ℕ, ◌+◌, Some, slice_index, arith, subst}
use Rattle.std.proofs.lemmas.Bool.Decides.{nat_tests}
use Rattle.std.proofs.lemmas.Result.{err_from_is_err_and}
use Rattle.rkyv_btree_compound.specs.Option.{misplaced_option, bad_tag, bad_some}
use Rattle.rkyv_btree_compound.specs.laws.OptionLaws.{fitting_option, option_of}
use Rattle.rkyv_btree_portable.proofs.Parts.{part_refused, part_accepted}
use Rattle.rkyv_btree_portable.specs.laws.Rounding.{alignment_positive}
use Rattle.rkyv_btree_compound.proofs.option.ArchivedOptionCheckBytes.check.Goals as goal

pub returns-in_err-check_place-clause-err : goal.returns-in_err-check_place-clause-err
returns-in_err-check_place-clause-err g c =
    let p = err_from_is_err_and c.from_residual.result c.from_residual.ensures.1 in
    rw (p.1, p.2) (misplaced_option c.in_err-check_place.ensures.err)

pub bounds-buf-pos : goal.bounds-buf-pos
bounds-buf-pos g c =
    let positive = alignment_positive g.met.T.Portable.laws.alignment in
    omega (arith, positive, c.in_ok-check_place.ensures.ok.room)

pub returns-then-tag-ne-SOME-clause-err : goal.returns-then-tag-ne-SOME-clause-err
returns-then-tag-ne-SOME-clause-err g c =
    bad_tag c.in_ok-check_place.ensures.ok
    (λ absent. absurd (grind (arith, nat_tests, absent, c.if-tag-eq-NONE.false)))
    (λ present. absurd (grind (arith, nat_tests, present, c.if-tag-ne-SOME.true)))

pub returns-in_err-lo-clause-err : goal.returns-in_err-lo-clause-err
returns-in_err-lo-clause-err g c =
    let fits = fitting_option g.T.Portable.kind c.requires.fitting in
    let bad = part_refused g.T.Portable.kind g.met.T.Portable.laws fits.value _ _ _ _ _ c.in_err-lo.ensures.gives in
    let p = err_from_is_err_and c.from_residual-in_err-lo.result c.from_residual-in_err-lo.ensures.1 in
    rw (p.1, p.2, bad.0, c.align.ensures.value) (bad_some c.in_ok-check_place.ensures.ok (grind (arith, nat_tests, c.if-tag-ne-SOME.false)) (rw c.align.ensures.value at bad.1))

pub returns-clause-ok : goal.returns-clause-ok
returns-clause-ok g c =
    let fits = fitting_option g.T.Portable.kind c.requires.fitting in
    let left = c.in_ok-lo.ensures.within in
    let value = part_accepted g.T.Portable.kind g.met.T.Portable.laws fits.value _ _ _ _ _ c.requires.ordered (omega arith) c.in_ok-lo.ensures.gives in
    let placed = subst (λ (offset : ℕ). g.T.Portable.kind.Means c.args.buf.now c.args.window.lo c.args.window.hi (c.args.pos + offset) c.in_ok-lo.lo value.0) c.align.ensures.value value.1 in
    let tag : slice_index c.args.buf.now c.args.pos ≡ 1 = grind (arith, nat_tests, c.if-tag-ne-SOME.false) in
    (Some value.0, option_of _ g.met.T.Portable.laws _ _ _ _ _ (Some value.0) left.0 left.1 c.requires.before c.in_ok-check_place.ensures.ok (tag, placed))
