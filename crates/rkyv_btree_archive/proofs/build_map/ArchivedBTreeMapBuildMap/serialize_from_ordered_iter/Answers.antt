-- What is promised of the map that was built, or of what stopped it.
use Rattle.rkyv_btree_writing_laws.specs.Entries.{both_borrowed}
use Rattle.std.proofs.Common.{None}
use Rattle.std.proofs.lemmas.Result.{IfOk-weaker, IfErr-weaker}
use Rattle.rkyv_btree_writing_laws.proofs.Built.{is_unbuilt, result_built}
use Rattle.rkyv_btree_writing_laws.proofs.Within.{serialised_within, fault_within}
use Rattle.rkyv_btree_writer.specs.declared.fault.Fault.TheVariants.{LengthOverflow}
use Rattle.rkyv_btree_archive.proofs.Ended.{fault_of_ended}
use Rattle.rkyv_btree_archive.proofs.Sources.{any_within}
use Rattle.rkyv_btree_archive.proofs.build_map.ArchivedBTreeMapBuildMap.serialize_from_ordered_iter.Goals as goal

pub returns-clause-ok : goal.returns-clause-ok
returns-clause-ok g c =
    result_built g.K.Portable.kind g.V.Portable.kind g.row.E g.KU.Archive.archival g.VU.Archive.archival (both_borrowed g.BKU.Borrow.borrowed g.BVU.Borrow.borrowed) g.I.Iterator.next_gives c.args.iter c.args.len g.W.Writer.state c.args.writer.now c.build_from.new.writer g.met.K.Portable.laws g.met.V.Portable.laws c.requires.fitting g.met.KU.Archive.archived g.met.VU.Archive.archived c.build_from.result LengthOverflow (λ late. (c.build_from.ensures.limits.past late).0)
    (IfOk-weaker c.build_from.result _ _ (λ root built.
    serialised_within g.K.Portable.kind g.V.Portable.kind g.row.E g.KU.Archive.archival g.VU.Archive.archival (both_borrowed g.BKU.Borrow.borrowed g.BVU.Borrow.borrowed) _ g.I.Iterator.next_gives (λ s. s.0.items) (any_within g.I.Iterator.next_gives) _ c.args.len (g.W.Writer.state c.args.writer.now) root (g.W.Writer.state c.build_from.new.writer) built.built.0) c.build_from.ensures.ok)
    (IfOk-weaker c.build_from.result _ _ (λ root built. built.last) c.build_from.ensures.ok) (IfOk-weaker c.build_from.result _ _ (λ root built. built.went) c.build_from.ensures.ok)

pub returns-clause-err : goal.returns-clause-err
returns-clause-err g c =
    IfErr-weaker c.build_from.result _ _ (λ fault failed.
    is_unbuilt g.K.Portable.kind g.V.Portable.kind g.row.E g.KU.Archive.archival g.VU.Archive.archival (both_borrowed g.BKU.Borrow.borrowed g.BVU.Borrow.borrowed) g.I.Iterator.next_gives c.args.iter c.args.len g.W.Writer.state c.args.writer.now c.build_from.new.writer fault
    (fault_within g.K.Portable.kind g.V.Portable.kind g.row.E g.KU.Archive.archival g.VU.Archive.archival (both_borrowed g.BKU.Borrow.borrowed g.BVU.Borrow.borrowed) _ g.I.Iterator.next_gives (λ s. s.0.items) (any_within g.I.Iterator.next_gives) _ c.args.len (g.W.Writer.state c.args.writer.now) fault (g.W.Writer.state c.build_from.new.writer)
    (fault_of_ended g.K.Portable.kind g.V.Portable.kind g.row.E g.KU.Archive.archival g.VU.Archive.archival (both_borrowed g.BKU.Borrow.borrowed g.BVU.Borrow.borrowed) _ _ c.args.len (g.W.Writer.state c.args.writer.now) fault (c.build_from.new.source, None) (g.W.Writer.state c.build_from.new.writer) failed.cause)) failed.kept failed.memory) c.build_from.ensures.err
