-- The tree and the map after it are the archive, or one of them isn't written.
use Rattle.rkyv_btree_ffi.proofs.Built.{archive_written, tree_written, fault_of_tree, fault_of_root}
use Rattle.rkyv_btree_format.specs.Layout.{layout_of}
use Rattle.rkyv_btree_ffi.proofs.building.archive_of.Goals as goal

pub returns-in-Err-clause-err : goal.returns-in-Err-clause-err
returns-in-Err-clause-err g c = fault_of_tree g.K.Native.Archive.archival g.V.Native.Archive.archival g.K.Native.Ord.cmp c.args.order c.args.natives.now c.in-Err.fault c.write_tree.new.writer (rw c.new-writer.ensures at c.in-Err.ensures.err)

pub returns-in-Ok-write_root-clause-archive : goal.returns-in-Ok-write_root-clause-archive
returns-in-Ok-write_root-clause-archive g c =
    archive_written g.K.Portable.kind g.V.Portable.kind g.K.Native.Archive.archival g.V.Native.Archive.archival c.args.natives.now c.new-writer.result c.write_tree.new.writer c.write_root.new.writer c.in-Ok.root c.written_maps_are_held.ensures c.new-writer.ensures c.in-Ok.ensures.archive c.in-Ok.ensures.went
    c.in-Ok-write_root.ensures.ok.wrote c.in-Ok-write_root.ensures.ok.last c.into_vec.result.items c.into_vec.ensures

pub returns-in-Err-write_root-clause-err : goal.returns-in-Err-write_root-clause-err
returns-in-Err-write_root-clause-err g c =
    fault_of_root g.K.Native.Archive.archival g.V.Native.Archive.archival g.K.Native.Ord.cmp c.args.order c.args.natives.now c.in-Ok.root c.write_tree.new.writer c.in-Err-write_root.fault c.write_root.new.writer (rw c.new-writer.ensures at c.in-Ok.ensures.serialised) c.in-Err-write_root.ensures.err.cause

pub returns-in-Ok-write_root-clause-tree : goal.returns-in-Ok-write_root-clause-tree
returns-in-Ok-write_root-clause-tree g c =
    tree_written (layout_of g.K.Portable.kind g.V.Portable.kind 5) g.K.Native.Archive.archival g.V.Native.Archive.archival c.args.natives.now c.new-writer.result c.write_tree.new.writer c.write_root.new.writer c.in-Ok.root c.new-writer.ensures c.in-Ok.ensures.tree c.in-Ok.ensures.went c.in-Ok-write_root.ensures.ok.wrote
    c.into_vec.result.items c.into_vec.ensures
