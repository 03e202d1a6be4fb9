-- The lookup compares the key with what archived ones mean.
use Rattle.std.proofs.Common.{◌≡◌, sym, ap, ◌∙◌, is_some, rules}
use Rattle.std.specs.BTreeMap.{is_at}
use Rattle.rkyv_btree_update.proofs.Meant.{read_meant}
use Rattle.rkyv_btree_view.proofs.LookedUp.{some_of_entry}
use Rattle.rkyv_btree_view.proofs.Lookups.{some_mapped}
use Rattle.rkyv_btree_view.specs.View.{view_entry, entries_of}
use Rattle.rkyv_btree_view.specs.laws.Cuts.{order_cuts}
use Rattle.rkyv_btree_update.proofs.counting.has_key.Goals as goal

pub returns : goal.returns
returns g c keys =
    let K = g.K.Portable.kind in
    let means : g.row.KU.Denot → K.Value = λ q. keys.meant (g.KU.CompareArchived.shown q) in
    let found = (c.get_key_value_with.ensures.lookup (λ q v. K.order (means q) v) (λ q w r post.
    let is : r ≡ g.KU.CompareArchived.order (g.KU.CompareArchived.shown q.now) (g.KU.CompareArchived.lent w.buf.now w.pos) = search rules in
    is ∙ keys.alike _ _ ∙ ap (K.order (means q.now)) (read_meant keys w.buf.now w.pos))).sorted (order_cuts g.met.K.ViewOrd.total _) c.args.map.increasing in
    c.is_some.ensures ∙ sym (some_mapped view_entry c.get_key_value_with.result) ∙ ap is_some found
    ∙ some_of_entry (is_at (K.order (means c.args.key.now))) (entries_of K g.V.Portable.kind g.M.ArchivedMap.E c.args.map.view)
