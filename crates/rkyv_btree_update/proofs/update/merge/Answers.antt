-- What is put means the entries of the second map.
use Rattle.std.proofs.Common.{IfOk, ap, subst, ◌∙◌}
use Rattle.rkyv_btree_update.proofs.Changed.{sorted_updated}
use Rattle.rkyv_btree_update.proofs.Meant.{puts_meant, read_meant, shown_meant}
use Rattle.rkyv_btree_update.proofs.Writes.{is_written}
use Rattle.rkyv_btree_update.specs.Natives.{shown_of}
use Rattle.rkyv_btree_update.specs.Updated.{all_put, updated}
use Rattle.rkyv_btree_update.specs.Written.{WritesSmallest}
use Rattle.rkyv_btree_view.specs.View.{entries_of}
use Rattle.rkyv_btree_update.proofs.update.merge.Goals as goal

pub returns-clause-ok : goal.returns-clause-ok
returns-clause-ok g c keys values =
    let new = c.args.second.view in
    let put = puts_meant keys.meant values.meant (shown_of g.K.Portable.kind g.V.Portable.kind g.row.E g.KU.CompareArchived.lent g.VU.CompareArchived.lent new)
    ∙ ap all_put (shown_meant g.K.Portable.kind g.V.Portable.kind g.row.E g.KU.CompareArchived.lent g.VU.CompareArchived.lent keys.meant values.meant (read_meant keys) (read_meant values) new.buf.now new.pos) in
    is_written g.K.Portable.kind g.V.Portable.kind g.row.E g.KU.Archive.archival g.VU.Archive.archival c.write_merged.result _ (g.W.Writer.state c.args.writer.now) (g.W.Writer.state c.write_merged.new.writer)
    (sorted_updated g.met.K.ViewOrd.total _ (all_put (entries_of g.K.Portable.kind g.V.Portable.kind g.row.E c.args.second.view)) c.args.first.increasing)
    (subst (λ cs. IfOk c.write_merged.result (λ at. WritesSmallest g.K.Portable.kind g.V.Portable.kind g.row.E (updated g.K.Portable.kind.order (entries_of g.K.Portable.kind g.V.Portable.kind g.row.E c.args.first.view) cs) (g.W.Writer.state c.args.writer.now) at (g.W.Writer.state c.write_merged.new.writer)))
    put (c.write_merged.ensures.smallest keys values))
