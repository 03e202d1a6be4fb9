-- The set is written into an empty vector.
use Rattle.std.proofs.Common.{subst}
use Rattle.std.specs.Iterator.{size}
use Rattle.rkyv_btree_archive.proofs.ListArchives.{set_archived}
use Rattle.rkyv_btree_archive.proofs.build_set.ArchivedBTreeSetBuildSet.to_archive_of.Goals as goal
use Rattle.rkyv_btree_writer.specs.Writing.{Writing}
use Rattle.rkyv_btree_writing_laws.specs.Building.{IsSetWritten}

pub returns-clause-ok : goal.returns-clause-ok
returns-clause-ok g c =
    set_archived g.K.Portable.kind g.row.E g.KU.Archive.archival g.BKU.Borrow.borrowed g.I.Iterator.next_gives c.args.iter (size (g.I.Iterator.remaining c.args.iter)) c.in_ok-write_set.field-0 c.write_set.new.writer c.into_vec.result.items
    (subst (λ (s : Writing). IsSetWritten g.K.Portable.kind g.row.E g.KU.Archive.archival g.BKU.Borrow.borrowed g.I.Iterator.next_gives c.args.iter (size (g.I.Iterator.remaining c.args.iter)) (λ w. w) s c.write_set.new.writer c.in_ok-write_set.field-0) c.new-writer.ensures c.in_ok-write_set.ensures.ok)
    c.into_vec.ensures
