-- The merge is that of these lists.
use Rattle.std.proofs.Common.{refl, subst}
use Rattle.rkyv_btree_update.proofs.Meant.{read_meant, shown_increase}
use Rattle.rkyv_btree_update.proofs.Merged.{can_start, merged_lists}
use Rattle.rkyv_btree_update.specs.Written.{IsCount}
use Rattle.rkyv_btree_update.specs.mirror.Merged.{new_left, old_left}
use Rattle.rkyv_btree_update.proofs.counting.count_all.Goals as goal

pub count-requires : goal.count-requires
count-requires g c κs =
    let view = c.args.old.view in
    let keys = c.is_lent.ensures in
    let values = c.is_lent-2.ensures in
    let increase = shown_increase g.K.Portable.kind g.V.Portable.kind g.M.ArchivedMap.E g.KU.CompareArchived.lent g.VU.CompareArchived.lent keys.meant values.meant (read_meant keys) (read_meant values) view.buf.now g.KU.CompareArchived.order keys.alike view.pos c.args.old.increasing in
    ((refl, tt), can_start g.KU.CompareArchived.order g.KU.CompareArchived.lent g.VU.CompareArchived.lent g.KU.CompareArchived.shown g.VU.CompareArchived.shown c.new.result _ _ c.new.ensures.old c.new.ensures.new c.new.ensures.compared increase c.requires)

pub returns : goal.returns
returns g c =
    let old = old_left {g = g.M.ArchivedMap} {m = g.M.Portable} {k = g.K.Portable} {v = g.V.Portable} g.KU.CompareArchived.lent g.VU.CompareArchived.lent g.KU.CompareArchived.shown g.VU.CompareArchived.shown in
    let new = new_left {g = g.M.ArchivedMap} {m = g.M.Portable} {k = g.K.Portable} {v = g.V.Portable} g.KU.CompareArchived.lent g.VU.CompareArchived.lent g.KU.CompareArchived.shown g.VU.CompareArchived.shown in
    subst (λ list. IsCount list c.count.result) (merged_lists g.KU.CompareArchived.order old new c.new.result _ _ c.new.ensures.old c.new.ensures.new) c.count.ensures
