-- Each field gives itself.
use Rattle.std.proofs.Common.{◌+◌, ap, refl}
use Rattle.rkyv_btree_compound.specs.Tuples.{third_offset}
use Rattle.rkyv_btree_portable.specs.Entry.{value_offset}
use Rattle.rkyv_btree_convert.proofs.round_trip.tuples_are_given_back.Goals as goal

pub returns : goal.returns
returns g c first second third tuple first_back second_back third_back b at same =
    let A = g.A.Portable.kind in
    let B = g.B.Portable.kind in
    let C = g.C.Portable.kind in
    let one = first_back b at (ap (λ r. r.0.0) same) in
    let two = second_back b (at + value_offset A B) (ap (λ r. r.0.1) same) in
    let three = third_back b (at + third_offset A B C) (ap (λ r. r.1) same) in
    rw (one, two, three) refl
