-- The entries of the new map are put.
use Rattle.std.proofs.Common.{IfOk, subst}
use Rattle.rkyv_btree_update.specs.Updated.{changes_meant, updated}
use Rattle.rkyv_btree_update.specs.Written.{WritesSmallest}
use Rattle.rkyv_btree_view.specs.View.{entries_of}
use Rattle.rkyv_btree_update.proofs.update.write_merged.Goals as goal

pub returns-clause-smallest : goal.returns-clause-smallest
returns-clause-smallest g c keys values =
    subst (λ cs. IfOk c.write_updated.result (λ at. WritesSmallest g.K.Portable.kind g.V.Portable.kind g.row.E (updated g.K.Portable.kind.order (entries_of g.K.Portable.kind g.V.Portable.kind g.M.ArchivedMap.E c.args.old.view) (changes_meant keys.meant values.meant cs)) (g.W.Writer.state c.args.writer.now) at (g.W.Writer.state c.write_updated.new.writer)))
    c.puts-2.ensures.shown (c.write_updated.ensures.smallest keys values)
