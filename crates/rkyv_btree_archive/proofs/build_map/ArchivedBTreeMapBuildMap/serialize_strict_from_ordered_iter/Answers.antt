-- What was built of items whose keys increase.
use Rattle.rkyv_btree_writing_laws.specs.Entries.{both_borrowed}
use Rattle.std.proofs.Common.{None, refl}
use Rattle.rkyv_btree_writing_laws.proofs.Built.{fits_if_ok, is_built}
use Rattle.rkyv_btree_writer.specs.declared.fault.Fault.TheVariants.{LengthOverflow}
use Rattle.rkyv_btree_archive.proofs.InOrder.{built_in_order, fault_in_order, fault_out_of_order, limits_met, memory_met, none_met}
use Rattle.rkyv_btree_archive.proofs.build_map.ArchivedBTreeMapBuildMap.serialize_strict_from_ordered_iter.Goals as goal

pub returns-in-Ok-clause-in_order : goal.returns-in-Ok-clause-in_order
returns-in-Ok-clause-in_order g c = built_in_order g.KU.Ord.cmp g.met.KU.Ord.total g.BKU.Borrow.borrowed g.BVU.Borrow.borrowed g.I.Iterator.next_gives c.args.len g.K.Portable.kind g.V.Portable.kind g.row.E g.KU.Archive.archival g.VU.Archive.archival _ (record { left = refl; first = refl; stopped = refl }) (g.W.Writer.state c.args.writer.now) c.in-Ok.resolver (g.W.Writer.state c.build_from-built.new.writer) c.in-Ok.ensures.ok.built.0

pub returns-in-Ok-clause-ok : goal.returns-in-Ok-clause-ok
returns-in-Ok-clause-ok g c =
    is_built g.K.Portable.kind g.V.Portable.kind g.row.E g.KU.Archive.archival g.VU.Archive.archival (both_borrowed g.BKU.Borrow.borrowed g.BVU.Borrow.borrowed) g.I.Iterator.next_gives c.args.iter c.args.len g.W.Writer.state c.args.writer.now c.build_from-built.new.writer g.met.K.Portable.laws g.met.V.Portable.laws c.requires.fitting g.met.KU.Archive.archived g.met.VU.Archive.archived c.in-Ok.resolver
    (fits_if_ok c.args.len c.in-Ok.resolver LengthOverflow (λ late. (c.in-Ok.ensures.limits.past late).0)) (returns-in-Ok-clause-in_order g c).0 c.in-Ok.ensures.ok.last c.in-Ok.ensures.ok.went

pub returns-then-source-clause-err : goal.returns-then-source-clause-err
returns-then-source-clause-err g c =
    rw c.out_of_order.ensures (record {
      cause = fault_out_of_order g.KU.Ord.cmp g.met.KU.Ord.total g.BKU.Borrow.borrowed g.BVU.Borrow.borrowed g.I.Iterator.next_gives c.args.len g.K.Portable.kind g.V.Portable.kind g.row.E g.KU.Archive.archival g.VU.Archive.archival _ (record { left = refl; first = refl; stopped = refl }) (g.W.Writer.state c.args.writer.now) c.in-Err.fault (c.build_from-built.new.source, None) (g.W.Writer.state c.build_from-built.new.writer) c.if-source.true c.in-Err.ensures.err.cause;
      kept = c.in-Err.ensures.err.kept;
      memory = λ keys values is. c.in-Err.ensures.err.memory keys values (memory_met c.in-Err.fault is);
    })

pub returns-then-source-clause-limits : goal.returns-then-source-clause-limits
returns-then-source-clause-limits g c =
    rw c.out_of_order.ensures (limits_met c.args.len (g.W.Writer.state c.args.writer.now) (g.W.Writer.state c.build_from-built.new.writer) c.in-Err.fault
    (λ none is. none_met g.KU.Ord.cmp g.met.KU.Ord.total g.BKU.Borrow.borrowed g.BVU.Borrow.borrowed g.I.Iterator.next_gives c.args.len g.K.Portable.kind g.V.Portable.kind g.row.E g.KU.Archive.archival g.VU.Archive.archival _ (record { left = refl; first = refl; stopped = refl }) (g.W.Writer.state c.args.writer.now) c.in-Err.fault (g.W.Writer.state c.build_from-built.new.writer) none is
    (fault_out_of_order g.KU.Ord.cmp g.met.KU.Ord.total g.BKU.Borrow.borrowed g.BVU.Borrow.borrowed g.I.Iterator.next_gives c.args.len g.K.Portable.kind g.V.Portable.kind g.row.E g.KU.Archive.archival g.VU.Archive.archival _ (record { left = refl; first = refl; stopped = refl }) (g.W.Writer.state c.args.writer.now) c.in-Err.fault (c.build_from-built.new.source, None) (g.W.Writer.state c.build_from-built.new.writer) c.if-source.true c.in-Err.ensures.err.cause)) c.in-Err.ensures.limits)

pub returns-clause-err : goal.returns-clause-err
returns-clause-err g c = record {
  cause = fault_in_order g.KU.Ord.cmp g.met.KU.Ord.total g.BKU.Borrow.borrowed g.BVU.Borrow.borrowed g.I.Iterator.next_gives c.args.len g.K.Portable.kind g.V.Portable.kind g.row.E g.KU.Archive.archival g.VU.Archive.archival _ (record { left = refl; first = refl; stopped = refl }) (g.W.Writer.state c.args.writer.now) c.in-Err.fault (c.build_from-built.new.source, None) (g.W.Writer.state c.build_from-built.new.writer) c.if-source.false c.in-Err.ensures.err.cause;
  kept = c.in-Err.ensures.err.kept;
  memory = λ keys values is. c.in-Err.ensures.err.memory keys values is;
}
