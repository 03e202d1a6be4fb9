-- The entry that is found is one of the map.
use Rattle.std.proofs.Common.{◌∙◌, ap, rules}
use Rattle.std.specs.Option.{option_map}
use Rattle.rkyv_btree_format.specs.Layout.{layout_of}
use Rattle.rkyv_btree_format.specs.Read.{entry_at, map_tree}
use Rattle.rkyv_btree_shape.specs.Tree.{list}
use Rattle.rkyv_btree_view.proofs.LookedUp.{listed_read}
use Rattle.rkyv_btree_view.proofs.Promised.{lookup_with}
use Rattle.rkyv_btree_view.proofs.view.View.get_key_value_with.Goals as goal

pub returns-clause-lookup : goal.returns-clause-lookup
returns-clause-lookup g c f p =
    let K = g.K.Portable.kind in let V = g.V.Portable.kind in let E = g.M.ArchivedMap.E in
    let found = c.search-found.ensures.found f (λ q w r e. let by = p q w in search rules) in
    lookup_with K V E c.args.self (f c.args.key.now) _ (c.entry_found.ensures ∙ ap (λ r. option_map (entry_at K V E c.args.self.buf.now) r.0) found)

pub returns-clause-listed : goal.returns-clause-listed
returns-clause-listed g c =
    let K = g.K.Portable.kind in let V = g.V.Portable.kind in let E = g.M.ArchivedMap.E in
    let b = c.args.self.buf.now in
    rw c.entry_found.ensures (listed_read (entry_at K V E b) (list (map_tree (layout_of K V E) b c.args.self.pos)) _ c.search-found.ensures.listed)
