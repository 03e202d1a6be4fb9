-- Keys compare as what their views read.
use Rattle.std.proofs.Common.{◌∙◌, ap, refl, rules}
use Rattle.std.specs.Option.{option_map}
use Rattle.rkyv_btree_format.specs.Read.{entry_at}
use Rattle.rkyv_btree_view.proofs.Promised.{entry_lookup}
use Rattle.rkyv_btree_view.specs.View.{view_value}
use Rattle.rkyv_btree_view.specs.laws.Cuts.{order_cuts}
use Rattle.rkyv_btree_view.proofs.view.View.get_key_value.Goals as goal

pub returns : goal.returns
returns g c =
    let K = g.K.Portable.kind in let V = g.V.Portable.kind in let E = g.M.ArchivedMap.E in
    let comparison = K.order (view_value c.args.key) in
    let found = c.search-found.ensures.found (λ q x. K.order (view_value q) x) (λ q w r e. search rules) in
    entry_lookup K V E c.args.self comparison _ (c.entry_found.ensures ∙ ap (λ r. option_map (entry_at K V E c.args.self.buf.now) r.0) found)
    comparison (order_cuts g.met.K.ViewOrd.total (view_value c.args.key)) (λ p. refl)
