-- What the map's call promises of its entries, this promises of its keys.
use Rattle.std.proofs.Common.{rules}
use Rattle.std.proofs.lemmas.Result.{IfErr-weaker}
use Rattle.rkyv_btree_writing_laws.proofs.Built.{built_as_set, unbuilt_as_set}
use Rattle.rkyv_btree_writing_laws.proofs.Sets.{set_built, set_refused}
use Rattle.rkyv_btree_writer.specs.declared.fault.Fault.TheVariants.{LengthOverflow}
use Rattle.rkyv_btree_archive.proofs.build_set.ArchivedBTreeSetBuildSet.serialize_from_ordered_iter.Goals as goal

pub returns-clause-ok : goal.returns-clause-ok
returns-clause-ok g c =
    rw (← c.map.ensures.source) (built_as_set g.K.Portable.kind g.row.E g.KU.Archive.archival g.BKU.Borrow.borrowed g.I.Iterator.next_gives _ c.args.len g.W.Writer.state c.args.writer.now c.serialize_from_ordered_iter.new.writer g.met.K.Portable.laws c.requires.fitting g.met.KU.Archive.archived c.serialize_from_ordered_iter.result LengthOverflow (λ late. (c.serialize_from_ordered_iter.ensures.limits.past late).0)
    (λ root built. set_built g.K.Portable.kind g.row.E g.KU.Archive.archival g.BKU.Borrow.borrowed g.I.Iterator.next_gives _ (λ f k e t called. search rules) c.map.result c.args.len g.W.Writer.state c.args.writer.now c.serialize_from_ordered_iter.new.writer root built) c.serialize_from_ordered_iter.ensures.ok)

pub returns-clause-err : goal.returns-clause-err
returns-clause-err g c =
    rw (← c.map.ensures.source) (IfErr-weaker c.serialize_from_ordered_iter.result _ _ (λ fault failed.
    unbuilt_as_set g.K.Portable.kind g.row.E g.KU.Archive.archival g.BKU.Borrow.borrowed g.I.Iterator.next_gives _ c.args.len g.W.Writer.state c.args.writer.now c.serialize_from_ordered_iter.new.writer fault
    (set_refused g.K.Portable.kind g.row.E g.KU.Archive.archival g.BKU.Borrow.borrowed g.I.Iterator.next_gives _ (λ f k e t called. search rules) c.map.result c.args.len _ fault _) failed) c.serialize_from_ordered_iter.ensures.err)
