-- A tuple's own bytes have room for all its fields.
use Rattle.std.proofs.Common.{◌≤◌, ◌∙◌, sym, subst}
use Rattle.std.proofs.lemmas.Result.{on_ok_weaker}
use Rattle.rkyv_btree_archive.specs.TupleArchival.{JoinedResolves}
use Rattle.rkyv_btree_archive.specs.laws.JoinedArchived.{same_tuple_size}
use Rattle.rkyv_btree_compound.specs.Joined.{joined_end}
use Rattle.rkyv_btree_compound.specs.Tuples.{tuple_size}
use Rattle.rkyv_btree_compound.specs.laws.JoinedLaws.{laid_out_of}
use Rattle.rkyv_btree_compound.specs.laws.TupleLaws.{fields_fit, last_inside}
use Rattle.rkyv_btree_archive.proofs.front_refs.resolve_fields.Goals as goal

pub resolve_next-requires-clause-fitting : goal.resolve_next-requires-clause-fitting
resolve_next-requires-clause-fitting g c =
    let P = g.P.Archived.TupleFront.kind in
    let L = g.L.Archived.Portable.kind in
    let p = g.met.P.Archived.TupleFront.laid_out in
    let l = laid_out_of g.met.L.Archived.Portable.laws in
    fields_fit P L p l (tuple_size P L) (last_inside P L p l) c.requires.fitting

pub resolve_next-requires-clause-room : goal.resolve_next-requires-clause-room
resolve_next-requires-clause-room g c =
    let P = g.P.Archived.TupleFront.kind in
    let L = g.L.Archived.Portable.kind in
    subst (λ n. joined_end P L ≤ n) (sym c.requires.size) (last_inside P L g.met.P.Archived.TupleFront.laid_out (laid_out_of g.met.L.Archived.Portable.laws))

pub returns-clause-ok : goal.returns-clause-ok
returns-clause-ok g c =
    let size = c.requires.size ∙ sym (same_tuple_size g.met.P.ArchiveFront.same_kind g.met.L.Archive.same_kind) in
    on_ok_weaker c.resolve_next.result (λ done. subst (λ n. JoinedResolves g.P.ArchiveFront.archival g.L.Archive.archival n (g.P.ArchiveFront.held c.args.front, c.args.last.now) c.args.resolver c.args.pos c.resolve_next.new.bytes) size done) c.resolve_next.ensures.ok
