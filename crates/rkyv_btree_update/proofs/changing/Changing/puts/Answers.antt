-- The entries that are put are all of the map, in its order.
use Rattle.std.proofs.Common.{sym, ap, subst}
use Rattle.rkyv_btree_format.specs.Increasing.{Increasing}
use Rattle.rkyv_btree_update.proofs.Lent.{whole}
use Rattle.rkyv_btree_update.proofs.Meant.{put_increase, read_meant, shown_increase}
use Rattle.rkyv_btree_update.specs.Updated.{all_put}
use Rattle.rkyv_btree_update.proofs.changing.Changing.puts.Goals as goal

pub returns-clause-shown : goal.returns-clause-shown
returns-clause-shown g c =
    let key = c.is_lent.ensures in
    let value = c.is_lent-2.ensures in
    ap all_put (whole {g = g.M.ArchivedMap} g.KU.CompareArchived.lent g.VU.CompareArchived.lent key.of_value value.of_value key.reads value.reads c.iter.result c.args.map.view.buf.now c.args.map.view.pos c.iter.ensures.entries)

pub returns-clause-in_order : goal.returns-clause-in_order
returns-clause-in_order g c =
    let key = c.is_lent.ensures in
    let value = c.is_lent-2.ensures in
    subst (Increasing g.KU.CompareArchived.order) (sym (returns-clause-shown g c))
    (put_increase g.KU.CompareArchived.order _ (shown_increase g.K.Portable.kind g.V.Portable.kind g.M.ArchivedMap.E g.KU.CompareArchived.lent g.VU.CompareArchived.lent key.meant value.meant (read_meant key) (read_meant value) c.args.map.view.buf.now g.KU.CompareArchived.order key.alike c.args.map.view.pos c.args.map.increasing))
