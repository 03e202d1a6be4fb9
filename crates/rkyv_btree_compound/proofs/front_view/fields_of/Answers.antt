-- A tuple's fields stand at their places.
use Rattle.rkyv_btree_compound.specs.Tuples.{tuple_size}
use Rattle.rkyv_btree_compound.specs.laws.JoinedLaws.{laid_out_of}
use Rattle.rkyv_btree_compound.specs.laws.TupleLaws.{both_stand, last_inside}
use Rattle.rkyv_btree_compound.proofs.front_view.fields_of.Goals as goal

pub invariant_of-front : goal.invariant_of-front
invariant_of-front g c =
    let P = g.P.TupleFront.kind in
    let L = g.L.Portable.kind in
    let p = g.met.P.TupleFront.laid_out in
    let l = g.met.L.Portable.laws in
    record { valid = (both_stand P L p l (tuple_size P L) (last_inside P L p (laid_out_of l)) _ _ c.args.tuple.valid).front }

pub next_offset-requires : goal.next_offset-requires
next_offset-requires g c =
    let P = g.P.TupleFront.kind in
    let L = g.L.Portable.kind in
    let p = g.met.P.TupleFront.laid_out in
    let l = g.met.L.Portable.laws in
    (both_stand P L p l (tuple_size P L) (last_inside P L p (laid_out_of l)) c.args.tuple.buf.now c.args.tuple.pos c.args.tuple.valid).fits

pub invariant_of-last : goal.invariant_of-last
invariant_of-last g c =
    let P = g.P.TupleFront.kind in
    let L = g.L.Portable.kind in
    let p = g.met.P.TupleFront.laid_out in
    let l = g.met.L.Portable.laws in
    rw c.next_offset.ensures.value (record { valid = (both_stand P L p l (tuple_size P L) (last_inside P L p (laid_out_of l)) _ _ c.args.tuple.valid).last })
