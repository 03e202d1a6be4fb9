-- What refuses a field refuses the fields at its position.
use Rattle.std.proofs.Common.{ℕ, ◌+◌, arith, subst}
use Rattle.std.proofs.lemmas.Result.{err_from_is_err_and}
use Rattle.rkyv_btree_compound.specs.Joined.{joined_end}
use Rattle.rkyv_btree_compound.specs.Tuples.{bad_front, bad_last}
use Rattle.rkyv_btree_compound.specs.laws.JoinedLaws.{laid_out_of, fitting_joined, joined_of_parts}
use Rattle.rkyv_btree_compound.specs.laws.TupleLaws.{front_place}
use Rattle.rkyv_btree_portable.proofs.Parts.{part_refused, part_accepted}
use Rattle.rkyv_btree_compound.proofs.front.check_next.Goals as goal

pub check_front-requires-clause-fitting : goal.check_front-requires-clause-fitting
check_front-requires-clause-fitting g c = (fitting_joined g.P.TupleFront.kind g.L.Portable.kind (joined_end g.P.TupleFront.kind g.L.Portable.kind) c.requires.fitting).key

pub check_front-requires-clause-place : goal.check_front-requires-clause-place
check_front-requires-clause-place g c = front_place g.P.TupleFront.kind g.L.Portable.kind g.met.P.TupleFront.laid_out (laid_out_of g.met.L.Portable.laws) (joined_end g.P.TupleFront.kind g.L.Portable.kind) (omega arith) _ _ c.requires.place

pub returns-in_err-front-clause-err : goal.returns-in_err-front-clause-err
returns-in_err-front-clause-err g c =
    let p = err_from_is_err_and c.from_residual.result c.from_residual.ensures.1 in
    rw (p.1, p.2) (bad_front c.in_err-front.ensures.err)

pub returns-in_err-left-clause-err : goal.returns-in_err-left-clause-err
returns-in_err-left-clause-err g c =
    let P = g.P.TupleFront.kind in
    let L = g.L.Portable.kind in
    let fits = fitting_joined P L (joined_end P L) c.requires.fitting in
    let bad = part_refused L g.met.L.Portable.laws fits.value _ _ _ _ _ c.in_err-left.ensures.gives in
    let p = err_from_is_err_and c.from_residual-in_err-left.result c.from_residual-in_err-left.ensures.1 in
    rw (p.1, p.2, bad.0, c.next_offset.ensures.value) (bad_last c.in_ok-front.ensures.ok.1 (rw c.next_offset.ensures.value at bad.1))

pub returns-clause-ok : goal.returns-clause-ok
returns-clause-ok g c =
    let P = g.P.TupleFront.kind in
    let L = g.L.Portable.kind in
    let p = g.met.P.TupleFront.laid_out in
    let fits = fitting_joined P L (joined_end P L) c.requires.fitting in
    let front = c.in_ok-front.ensures.ok in
    let front_lies = p.lies _ _ _ _ _ _ front.1 in
    let place = c.next_offset.ensures.inside in
    let last = part_accepted L g.met.L.Portable.laws fits.value _ _ _ _ _ (omega arith) (omega arith) c.in_ok-left.ensures.gives in
    let placed = subst (λ (offset : ℕ). L.Means c.args.buf.now c.in_ok-front.front c.args.hi (c.args.pos + offset) c.in_ok-left.left last.0) c.next_offset.ensures.value last.1 in
    ((front.0, last.0), joined_of_parts P L p (laid_out_of g.met.L.Portable.laws) (joined_end P L) (omega arith) _ _ _ _ _ front.0 last.0 c.requires.before c.requires.place (record { between = c.in_ok-front.front; key = front.1; value = placed }))
