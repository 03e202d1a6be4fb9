-- A native value compares as at the positions of keys.
use Rattle.std.proofs.Common.{◌∙◌, ap, rules}
use Rattle.std.specs.Option.{option_map}
use Rattle.rkyv_btree_format.specs.Read.{entry_at}
use Rattle.rkyv_btree_view.proofs.LookedUp.{natives_agree}
use Rattle.rkyv_btree_view.proofs.Promised.{entry_lookup}
use Rattle.rkyv_btree_view.proofs.view.View.get_key_value_by.Goals as goal

pub returns : goal.returns
returns g c f p =
    let K = g.K.Portable.kind in let V = g.V.Portable.kind in let E = g.M.ArchivedMap.E in
    let b = c.args.self.buf.now in
    let key = c.args.key in
    let law = g.met.K.CompareWith.compares in
    let found = c.search-found.ensures.found f (λ q w r e. let same = p q.now w.buf.now w.pos in search rules) in
    entry_lookup K V E c.args.self (f key) _ (c.entry_found.ensures ∙ ap (λ r. option_map (entry_at K V E b) r.0) found)
    (law.compared key) (law.cuts key) (natives_agree law f p key b)
