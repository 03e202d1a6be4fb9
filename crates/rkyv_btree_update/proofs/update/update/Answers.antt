-- What the changes show means what the changes mean.
use Rattle.std.proofs.Common.{IfOk, sym, subst}
use Rattle.rkyv_btree_update.proofs.Changed.{sorted_updated}
use Rattle.rkyv_btree_update.proofs.Meant.{changes_through}
use Rattle.rkyv_btree_update.proofs.Writes.{is_written}
use Rattle.rkyv_btree_update.specs.Natives.{meaning}
use Rattle.rkyv_btree_update.specs.Updated.{changes_meant, updated}
use Rattle.rkyv_btree_update.specs.Written.{WritesSmallest}
use Rattle.rkyv_btree_view.specs.View.{entries_of}
use Rattle.rkyv_btree_update.proofs.update.update.Goals as goal

pub returns-clause-ok : goal.returns-clause-ok
returns-clause-ok g c keys values =
    let through = changes_through (meaning g.KU.Archive.archival keys.same) (meaning g.VU.Archive.archival values.same) g.KU.CompareArchived.shown g.VU.CompareArchived.shown keys.meant values.meant keys.means values.means c.args.changes.now in
    is_written g.K.Portable.kind g.V.Portable.kind g.row.E g.KU.Archive.archival g.VU.Archive.archival c.write_listed.result _ (g.W.Writer.state c.args.writer.now) (g.W.Writer.state c.write_listed.new.writer)
    (sorted_updated g.met.K.ViewOrd.total _ (changes_meant (meaning g.KU.Archive.archival keys.same) (meaning g.VU.Archive.archival values.same) c.args.changes.now) c.args.old.increasing)
    (subst (λ cs. IfOk c.write_listed.result (λ at. WritesSmallest g.K.Portable.kind g.V.Portable.kind g.row.E (updated g.K.Portable.kind.order (entries_of g.K.Portable.kind g.V.Portable.kind g.row.E c.args.old.view) cs) (g.W.Writer.state c.args.writer.now) at (g.W.Writer.state c.write_listed.new.writer)))
    (sym through) (c.write_listed.ensures.smallest keys values))
