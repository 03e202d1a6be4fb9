-- What the map's call promises of its entries, this promises of its keys.
use Rattle.std.proofs.Common.{rules}
use Rattle.std.proofs.lemmas.Result.{IfErr-weaker}
use Rattle.rkyv_btree_writing_laws.proofs.Built.{built_as_set}
use Rattle.rkyv_btree_writer.specs.declared.fault.Fault.TheVariants.{LengthOverflow}
use Rattle.rkyv_btree_archive.specs.TryBuilding.{OkSteps}
use Rattle.rkyv_btree_archive.specs.declared.try_build.TryFault.TheVariants.{Build}
use Rattle.rkyv_btree_archive.proofs.TrySets.{set_tried, set_untried, untried_as_set}
use Rattle.rkyv_btree_archive.proofs.build_set.ArchivedBTreeSetBuildSet.try_serialize_from_ordered_iter.Goals as goal

pub returns-clause-ok : goal.returns-clause-ok
returns-clause-ok g c =
    rw (← c.map.ensures.source) (built_as_set g.K.Portable.kind g.row.E g.KU.Archive.archival g.BKU.Borrow.borrowed (OkSteps g.I.Iterator.next_gives) _ c.args.len g.W.Writer.state c.args.writer.now c.try_serialize_from_ordered_iter.new.writer g.met.K.Portable.laws c.requires.fitting g.met.KU.Archive.archived c.try_serialize_from_ordered_iter.result (Build LengthOverflow) (λ late. (c.try_serialize_from_ordered_iter.ensures.limits.past late).0)
    (λ root built. set_tried g.I.Iterator.next_gives _ (λ f k r t called. search rules) g.K.Portable.kind g.row.E g.KU.Archive.archival g.BKU.Borrow.borrowed c.map.result c.args.len g.W.Writer.state c.args.writer.now c.try_serialize_from_ordered_iter.new.writer root built) c.try_serialize_from_ordered_iter.ensures.ok)

pub returns-clause-err : goal.returns-clause-err
returns-clause-err g c =
    rw (← c.map.ensures.source) (IfErr-weaker c.try_serialize_from_ordered_iter.result _ _ (λ fault failed.
    untried_as_set g.K.Portable.kind g.row.E g.KU.Archive.archival g.BKU.Borrow.borrowed g.I.Iterator.next_gives _ c.args.len g.W.Writer.state c.args.writer.now c.try_serialize_from_ordered_iter.new.writer fault
    (set_untried g.I.Iterator.next_gives _ (λ f k r t called. search rules) g.K.Portable.kind g.row.E g.KU.Archive.archival g.BKU.Borrow.borrowed c.map.result c.args.len _ _ fault) failed) c.try_serialize_from_ordered_iter.ensures.err)
