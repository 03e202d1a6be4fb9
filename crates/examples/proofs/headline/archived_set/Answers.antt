use Rattle.std.proofs.Common.{inl, inr}
use Rattle.std.proofs.lemmas.Result.{err_from_is_err_and}
use Rattle.rkyv_btree_base.specs.Archiving.{itself}
use Rattle.rkyv_btree_base.specs.Scalars.{unit_kind}
use Rattle.examples.proofs.Concluded.{keys_archived, not_both}
use Rattle.examples.proofs.headline.archived_set.Goals as goal

pub returns-in_err-root-clause-refused : goal.returns-in_err-root-clause-refused
returns-in_err-root-clause-refused g c =
    let p = err_from_is_err_and c.from_residual.result c.from_residual.ensures.1 in
    rw (p.1, p.2) (c.serialize_from_ordered_iter.new.writer, inl (rw c.new-writer.ensures at c.in_err-root.ensures.err.cause))

pub returns-in_err-pos-clause-refused : goal.returns-in_err-pos-clause-refused
returns-in_err-pos-clause-refused g c =
    let p = err_from_is_err_and c.from_residual-in_err-pos.result c.from_residual-in_err-pos.ensures.1 in
    rw (p.1, p.2) (c.write_root.new.writer, inr (c.in_ok-root.root, c.serialize_from_ordered_iter.new.writer, rw c.new-writer.ensures at c.in_ok-root.ensures.ok.written, c.in_err-pos.ensures.err.cause))

pub unreachable-requires : goal.unreachable-requires
unreachable-requires g c =
    let archive = keys_archived g.K.Portable.kind g.row.E g.KU.Archive.archival c.written_maps_are_held.ensures c.new-writer.result c.serialize_from_ordered_iter.new.writer c.write_root.new.writer c.in_ok-root.root c.args.len c.in_ok-pos.pos c.bytes.result.now g.I.Iterator.next_gives c.args.iter
    c.new-writer.ensures c.in_ok-root.ensures.ok.smallest c.in_ok-root.ensures.ok.went c.in_ok-pos.ensures.ok.wrote c.in_ok-pos.ensures.ok.last c.in_ok-pos.ensures.ok.pos c.bytes.ensures in
    let a = archive.smallest g.met.KU.Archive.same_kind (itself unit_kind) in
    not_both c.access.result c.is_err.result (c.access.ensures.accepts.1 (_, (a.0, a.1))) c.is_err.ensures.value c.if-is_err.true

pub returns-clause-smallest : goal.returns-clause-smallest
returns-clause-smallest g c =
    keys_archived g.K.Portable.kind g.row.E g.KU.Archive.archival c.written_maps_are_held.ensures c.new-writer.result c.serialize_from_ordered_iter.new.writer c.write_root.new.writer c.in_ok-root.root c.args.len c.in_ok-pos.pos c.into_vec.result.items g.I.Iterator.next_gives c.args.iter
    c.new-writer.ensures c.in_ok-root.ensures.ok.smallest c.in_ok-root.ensures.ok.went c.in_ok-pos.ensures.ok.wrote c.in_ok-pos.ensures.ok.last c.in_ok-pos.ensures.ok.pos c.into_vec.ensures
