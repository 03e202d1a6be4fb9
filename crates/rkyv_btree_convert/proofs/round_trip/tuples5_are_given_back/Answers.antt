-- Each field gives itself.
use Rattle.std.proofs.Common.{◌+◌, ap, refl}
use Rattle.rkyv_btree_compound.specs.Tuples.{third_offset, fourth_offset, fifth_offset}
use Rattle.rkyv_btree_portable.specs.Entry.{value_offset}
use Rattle.rkyv_btree_convert.proofs.round_trip.tuples5_are_given_back.Goals as goal

pub returns : goal.returns
returns g c first second third fourth fifth tuple first_back second_back third_back fourth_back fifth_back b at same =
    let A = g.A.Portable.kind in
    let B = g.B.Portable.kind in
    let C = g.C.Portable.kind in
    let D = g.D.Portable.kind in
    let E = g.E.Portable.kind in
    let the_first = first_back b at (ap (λ r. r.0.0.0.0) same) in
    let the_second = second_back b (at + value_offset A B) (ap (λ r. r.0.0.0.1) same) in
    let the_third = third_back b (at + third_offset A B C) (ap (λ r. r.0.0.1) same) in
    let the_fourth = fourth_back b (at + fourth_offset A B C D) (ap (λ r. r.0.1) same) in
    let the_fifth = fifth_back b (at + fifth_offset A B C D E) (ap (λ r. r.1) same) in
    rw (the_first, the_second, the_third, the_fourth, the_fifth) refl
