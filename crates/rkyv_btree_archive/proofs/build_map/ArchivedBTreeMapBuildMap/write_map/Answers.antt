-- The tree is built, and the map is written after it.
use Rattle.std.proofs.Common.{inl}
use Rattle.std.proofs.lemmas.Result.{err_from_is_err_and}
use Rattle.rkyv_btree_writing_laws.proofs.MapsWritten.{result_unwritten, result_written}
use Rattle.rkyv_btree_writing_laws.specs.Entries.{both_borrowed}
use Rattle.rkyv_btree_archive.proofs.build_map.ArchivedBTreeMapBuildMap.write_map.Goals as goal

pub returns-in_err-tree-clause-err : goal.returns-in_err-tree-clause-err
returns-in_err-tree-clause-err g c =
    let p = err_from_is_err_and c.from_residual.result c.from_residual.ensures.1 in
    rw (p.1, p.2) (record { cause = inl c.in_err-tree.ensures.err.cause; kept = c.in_err-tree.ensures.err.kept })

pub returns-clause-ok : goal.returns-clause-ok
returns-clause-ok g c =
    result_written g.K.Portable.kind g.V.Portable.kind g.row.E g.KU.Archive.archival g.VU.Archive.archival (both_borrowed g.BKU.Borrow.borrowed g.BVU.Borrow.borrowed) g.I.Iterator.next_gives c.args.iter _ g.W.Writer.state c.args.writer.now c.serialize_from_exact_iter.new.writer c.write_root.new.writer
    c.write_root.result _ c.in_ok-tree.ensures.ok (rw (← c.len-len.ensures.value) c.write_root.ensures.ok)

pub returns-clause-err : goal.returns-clause-err
returns-clause-err g c =
    result_unwritten g.K.Portable.kind g.V.Portable.kind g.row.E g.KU.Archive.archival g.VU.Archive.archival (both_borrowed g.BKU.Borrow.borrowed g.BVU.Borrow.borrowed) g.I.Iterator.next_gives c.args.iter _ g.W.Writer.state c.args.writer.now c.serialize_from_exact_iter.new.writer c.write_root.new.writer
    c.write_root.result _ c.in_ok-tree.ensures.ok (rw (← c.len-len.ensures.value) c.write_root.ensures.err)
