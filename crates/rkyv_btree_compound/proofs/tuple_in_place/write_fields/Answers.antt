-- What is read of the fields' own bytes, where they are written, are their values.
use Rattle.std.proofs.Common.{sym, subst, ap, ◌∙◌, ◌≤◌}
use Rattle.rkyv_btree_compound.specs.Joined.{joined_end}
use Rattle.rkyv_btree_compound.specs.Tuples.{tuple_size}
use Rattle.rkyv_btree_compound.specs.TupleInPlace.{joined_bytes}
use Rattle.rkyv_btree_compound.specs.laws.JoinedLaws.{laid_out_of}
use Rattle.rkyv_btree_compound.specs.laws.TupleLaws.{last_inside, fields_fit}
use Rattle.rkyv_btree_compound.specs.laws.TupleInPlaceLaws.{held}
use Rattle.rkyv_btree_compound.proofs.tuple_in_place.write_fields.Goals as goal

pub write_next-requires-clause-fitting : goal.write_next-requires-clause-fitting
write_next-requires-clause-fitting g c =
    let P = g.P.TupleFront.kind in
    let L = g.L.Portable.kind in
    let p = g.met.P.TupleFront.laid_out in
    let l = laid_out_of g.met.L.Portable.laws in
    fields_fit P L p l (tuple_size P L) (last_inside P L p l) c.requires.fitting

pub write_next-requires-clause-room : goal.write_next-requires-clause-room
write_next-requires-clause-room g c =
    let P = g.P.TupleFront.kind in
    let L = g.L.Portable.kind in
    subst (λ n. joined_end P L ≤ n) (sym c.requires.size) (last_inside P L g.met.P.TupleFront.laid_out (laid_out_of g.met.L.Portable.laws))

pub returns-clause-bytes : goal.returns-clause-bytes
returns-clause-bytes g c =
    let P = g.P.TupleFront.kind in
    let L = g.L.Portable.kind in
    c.write_next.ensures.bytes ∙ ap (λ n. joined_bytes P L n (g.P.InPlaceFront.in_place.own_bytes c.args.front) (g.L.InPlace.in_place.own_bytes c.args.last)) c.requires.size

pub returns-clause-front : goal.returns-clause-front
returns-clause-front g c =
    let P = g.P.TupleFront.kind in
    let L = g.L.Portable.kind in
    let p = g.met.P.TupleFront.laid_out in
    let l = laid_out_of g.met.L.Portable.laws in
    let h = held P L p l (tuple_size P L) (last_inside P L p l) (λ x. x) g.met.P.InPlaceFront.alone.in_place g.met.L.InPlace.is_in_place (c.args.front, c.args.last) in
    ap g.P.InPlaceFront.in_place.model_of_bytes h.1 ∙ c.write_next.ensures.front

pub returns-clause-last : goal.returns-clause-last
returns-clause-last g c =
    let P = g.P.TupleFront.kind in
    let L = g.L.Portable.kind in
    let p = g.met.P.TupleFront.laid_out in
    let l = laid_out_of g.met.L.Portable.laws in
    let h = held P L p l (tuple_size P L) (last_inside P L p l) (λ x. x) g.met.P.InPlaceFront.alone.in_place g.met.L.InPlace.is_in_place (c.args.front, c.args.last) in
    ap g.L.InPlace.in_place.model_of_bytes h.2 ∙ c.write_next.ensures.last
