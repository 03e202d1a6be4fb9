-- What was built of the items of an iterator that can fail.
use Rattle.std.proofs.Common.{None, refl}
use Rattle.std.proofs.lemmas.Result.{IfOk-weaker, IfErr-weaker}
use Rattle.rkyv_btree_writing_laws.specs.Entries.{both_borrowed}
use Rattle.rkyv_btree_writing_laws.proofs.Built.{result_built}
use Rattle.rkyv_btree_writer.specs.declared.fault.Fault.TheVariants.{LengthOverflow}
use Rattle.rkyv_btree_archive.specs.TryBuilding.{OkSteps}
use Rattle.rkyv_btree_archive.specs.declared.try_build.TryFault.TheVariants.{Build}
use Rattle.rkyv_btree_archive.proofs.Ended.{unbuilt_memory}
use Rattle.rkyv_btree_archive.proofs.TryBuilding.{result_untried, tried_kept, tried_memory, tried_on_ok, tried_past, try_err, try_limits, try_ok}
use Rattle.rkyv_btree_archive.proofs.build_map.ArchivedBTreeMapBuildMap.try_serialize_from_ordered_iter.Goals as goal

pub returns-clause-ok : goal.returns-clause-ok
returns-clause-ok g c =
    rw c.tried.ensures (result_built g.K.Portable.kind g.V.Portable.kind g.row.E g.KU.Archive.archival g.VU.Archive.archival (both_borrowed g.BKU.Borrow.borrowed g.BVU.Borrow.borrowed) (OkSteps g.I.Iterator.next_gives) c.args.iter c.args.len g.W.Writer.state c.args.writer.now c.build_from-built.new.writer g.met.K.Portable.laws g.met.V.Portable.laws c.requires.fitting g.met.KU.Archive.archived g.met.VU.Archive.archived _ (Build LengthOverflow) (λ late. tried_past _ c.build_from-built.result (c.build_from-built.ensures.limits.past late).0)
    (try_ok g.I.Iterator.next_gives g.K.Portable.kind g.V.Portable.kind g.row.E g.KU.Archive.archival g.VU.Archive.archival (both_borrowed g.BKU.Borrow.borrowed g.BVU.Borrow.borrowed) _ refl c.args.len (g.W.Writer.state c.args.writer.now) _ c.build_from-built.result (c.build_from-built.new.source, None) (g.W.Writer.state c.build_from-built.new.writer) refl (IfOk-weaker c.build_from-built.result _ _ (λ root built. built.built) c.build_from-built.ensures.ok)) (tried_on_ok _ _ c.build_from-built.result (IfOk-weaker c.build_from-built.result _ _ (λ root built. built.last) c.build_from-built.ensures.ok)) (tried_on_ok _ _ c.build_from-built.result (IfOk-weaker c.build_from-built.result _ _ (λ root built. built.went) c.build_from-built.ensures.ok)))

pub returns-clause-err : goal.returns-clause-err
returns-clause-err g c =
    rw c.tried.ensures (result_untried g.K.Portable.kind g.V.Portable.kind g.row.E g.KU.Archive.archival g.VU.Archive.archival (both_borrowed g.BKU.Borrow.borrowed g.BVU.Borrow.borrowed) g.I.Iterator.next_gives c.args.iter c.args.len g.W.Writer.state c.args.writer.now c.build_from-built.new.writer _
    (try_err g.I.Iterator.next_gives g.K.Portable.kind g.V.Portable.kind g.row.E g.KU.Archive.archival g.VU.Archive.archival (both_borrowed g.BKU.Borrow.borrowed g.BVU.Borrow.borrowed) _ refl c.args.len (g.W.Writer.state c.args.writer.now) _ c.build_from-built.result (c.build_from-built.new.source, None) (g.W.Writer.state c.build_from-built.new.writer) refl (IfOk-weaker c.build_from-built.result _ _ (λ root built. built.built) c.build_from-built.ensures.ok) (IfErr-weaker c.build_from-built.result _ _ (λ fault failed. failed.cause) c.build_from-built.ensures.err))
    (tried_kept (g.W.Writer.state c.args.writer.now) (g.W.Writer.state c.build_from-built.new.writer) _ c.build_from-built.result (IfOk-weaker c.build_from-built.result _ _ (λ root built. built.went) c.build_from-built.ensures.ok) (IfErr-weaker c.build_from-built.result _ _ (λ fault failed. failed.kept) c.build_from-built.ensures.err)) (λ keys values is. unbuilt_memory g.K.Portable.kind g.V.Portable.kind g.row.E g.KU.Archive.archival g.VU.Archive.archival (both_borrowed g.BKU.Borrow.borrowed g.BVU.Borrow.borrowed) _ _ c.args.len (g.W.Writer.state c.args.writer.now) c.build_from-built.result (c.build_from-built.new.source, None) (g.W.Writer.state c.build_from-built.new.writer) c.build_from-built.ensures.err keys values (tried_memory _ c.build_from-built.result is)))

pub returns-clause-limits : goal.returns-clause-limits
returns-clause-limits g c = rw c.tried.ensures (try_limits c.args.len (g.W.Writer.state c.args.writer.now) (g.W.Writer.state c.build_from-built.new.writer) _ c.build_from-built.result c.build_from-built.ensures.limits)
