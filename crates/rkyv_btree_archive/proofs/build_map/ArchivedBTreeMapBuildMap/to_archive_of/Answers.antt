-- The map is written into an empty vector.
use Rattle.std.proofs.Common.{subst}
use Rattle.std.specs.Iterator.{size}
use Rattle.rkyv_btree_archive.proofs.ListArchives.{map_archived}
use Rattle.rkyv_btree_archive.proofs.build_map.ArchivedBTreeMapBuildMap.to_archive_of.Goals as goal
use Rattle.rkyv_btree_writer.specs.Writing.{Writing}
use Rattle.rkyv_btree_writing_laws.specs.Building.{IsMapWritten}
use Rattle.rkyv_btree_writing_laws.specs.Entries.{both_borrowed}

pub returns-clause-ok : goal.returns-clause-ok
returns-clause-ok g c =
    let borrowed = both_borrowed g.BKU.Borrow.borrowed g.BVU.Borrow.borrowed in
    map_archived g.K.Portable.kind g.V.Portable.kind g.row.E g.KU.Archive.archival g.VU.Archive.archival borrowed g.I.Iterator.next_gives c.args.iter (size (g.I.Iterator.remaining c.args.iter)) c.in_ok-write_map.field-0 c.write_map.new.writer c.into_vec.result.items
    (subst (λ (s : Writing). IsMapWritten g.K.Portable.kind g.V.Portable.kind g.row.E g.KU.Archive.archival g.VU.Archive.archival borrowed g.I.Iterator.next_gives c.args.iter (size (g.I.Iterator.remaining c.args.iter)) (λ w. w) s c.write_map.new.writer c.in_ok-write_map.field-0) c.new-writer.ensures c.in_ok-write_map.ensures.ok)
    c.into_vec.ensures
