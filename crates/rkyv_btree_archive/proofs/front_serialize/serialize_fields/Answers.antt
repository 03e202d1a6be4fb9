-- Where a tuple fits, its fields do.
use Rattle.rkyv_btree_compound.specs.Tuples.{tuple_size}
use Rattle.rkyv_btree_compound.specs.laws.JoinedLaws.{laid_out_of}
use Rattle.rkyv_btree_compound.specs.laws.TupleLaws.{fields_fit, last_inside}
use Rattle.rkyv_btree_archive.proofs.front_serialize.serialize_fields.Goals as goal

pub serialize_next-requires : goal.serialize_next-requires
serialize_next-requires g c =
    let P = g.P.Archived.TupleFront.kind in
    let L = g.L.Archived.Portable.kind in
    let p = g.met.P.Archived.TupleFront.laid_out in
    let l = laid_out_of g.met.L.Archived.Portable.laws in
    fields_fit P L p l (tuple_size P L) (last_inside P L p l) c.requires
