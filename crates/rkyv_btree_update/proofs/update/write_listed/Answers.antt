-- The changes are in order, or the error has the index of the first one that isn't.
use Rattle.std.proofs.Common.{Err, refl, ap}
use Rattle.rkyv_btree_writer.specs.declared.fault.Fault.TheVariants.{OutOfOrder}
use Rattle.rkyv_btree_strict.proofs.Ordered.{not_both, one_index}
use Rattle.rkyv_btree_writing_laws.proofs.Kept.{same_begins}
use Rattle.rkyv_btree_update.proofs.Writes.{fails}
use Rattle.rkyv_btree_update.proofs.update.write_listed.Goals as goal

pub returns-in-Some-clause-out_of_order : goal.returns-in-Some-clause-out_of_order
returns-in-Some-clause-out_of_order g c index out = ap (λ k. Err (OutOfOrder k)) (one_index g.met.KU.Ord.total c.args.changes.now c.in-Some.index index c.in-Some.ensures out)

pub returns-clause-out_of_order : goal.returns-clause-out_of_order
returns-clause-out_of_order g c index out = absurd (not_both g.met.KU.Ord.total c.args.changes.now index c.in_default.ensures.0 out)

pub returns-in-Some-clause-err : goal.returns-in-Some-clause-err
returns-in-Some-clause-err g c = record { cause = (c.in-Some.ensures, refl); kept = same_begins (g.W.Writer.state c.args.writer.now) (g.W.Writer.state c.args.writer.now) refl }

pub returns-clause-err : goal.returns-clause-err
returns-clause-err g c =
    fails g.K.Portable.kind g.V.Portable.kind g.row.E g.KU.Archive.archival g.VU.Archive.archival g.KU.CompareArchived.shown g.VU.CompareArchived.shown g.KU.Ord.cmp c.args.changes.now _ (g.W.Writer.state c.args.writer.now) (g.W.Writer.state c.write_updated.new.writer) c.write_updated.result c.write_updated.ensures.err
