-- Both parts give themselves.
use Rattle.std.proofs.Common.{◌+◌, ap, refl}
use Rattle.rkyv_btree_portable.specs.Entry.{value_offset}
use Rattle.rkyv_btree_convert.proofs.round_trip.pairs_are_given_back.Goals as goal

pub returns : goal.returns
returns g c key value pair key_back value_back b at same =
    let first = key_back b at (ap (λ r. r.0) same) in
    let second = value_back b (at + value_offset g.K.Portable.kind g.V.Portable.kind) (ap (λ r. r.1) same) in
    rw (first, second) refl
