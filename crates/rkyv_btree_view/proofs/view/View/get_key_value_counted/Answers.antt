-- The entry that is found is one of the map, and the search compares no more keys than the tree has room for.
use Rattle.std.proofs.Common.{◌∙◌, ◌+◌, ap, arith, rules}
use Rattle.rkyv_btree_verify.specs.Map.{map_kind}
use Rattle.rkyv_btree_portable.specs.laws.Views.{fitting_of}
use Rattle.rkyv_btree_walk.specs.mirror.Search.{comparison_at}
use Rattle.rkyv_btree_walk.proofs.Roots.{map_compared_bound}
use Rattle.rkyv_btree_view.proofs.Lookups.{count_room}
use Rattle.std.specs.Option.{option_map}
use Rattle.rkyv_btree_format.specs.Layout.{layout_of}
use Rattle.rkyv_btree_format.specs.Read.{entry_at, map_tree}
use Rattle.rkyv_btree_shape.specs.Tree.{list}
use Rattle.rkyv_btree_view.proofs.LookedUp.{listed_read}
use Rattle.rkyv_btree_view.proofs.Promised.{lookup_with}
use Rattle.rkyv_btree_view.proofs.view.View.get_key_value_counted.Goals as goal

pub add-requires : goal.add-requires
add-requires g c =
    let K = g.K.Portable.kind in let V = g.V.Portable.kind in let E = g.M.ArchivedMap.E in
    count_room K V E g.met.K.Portable.laws g.met.V.Portable.laws (fitting_of (map_kind K V E) _ _ c.opened.ensures) _ _ c.requires.room c.search-found.ensures.few

pub returns-clause-counts : goal.returns-clause-counts
returns-clause-counts g c f p = c.add.ensures ∙ ap (λ r. c.args.steps.now + r.1) (c.search-found.ensures.found f (λ q w r e. let by = p q w in search rules))

pub returns-clause-few : goal.returns-clause-few
returns-clause-few g c f p =
    let K = g.K.Portable.kind in let V = g.V.Portable.kind in let E = g.M.ArchivedMap.E in
    let b = c.args.self.buf.now in
    let bound = map_compared_bound K V E g.met.K.Portable.laws g.met.V.Portable.laws b c.args.self.pos c.opened.ensures (comparison_at K V E b (f c.args.key.now)) in
    let compared = ap (λ r. r.1) (c.search-found.ensures.found f (λ q w r e. let by = p q w in search rules)) in
    omega (arith, bound, compared, c.add.ensures)

pub returns-clause-lookup : goal.returns-clause-lookup
returns-clause-lookup g c f p =
    let K = g.K.Portable.kind in let V = g.V.Portable.kind in let E = g.M.ArchivedMap.E in
    let found = c.search-found.ensures.found f (λ q w r e. let by = p q w in search rules) in
    lookup_with K V E c.args.self (f c.args.key.now) _ (c.entry_found.ensures ∙ ap (λ r. option_map (entry_at K V E c.args.self.buf.now) r.0) found)

pub returns-clause-listed : goal.returns-clause-listed
returns-clause-listed g c =
    let K = g.K.Portable.kind in let V = g.V.Portable.kind in let E = g.M.ArchivedMap.E in
    let b = c.args.self.buf.now in
    rw c.entry_found.ensures (listed_read (entry_at K V E b) (list (map_tree (layout_of K V E) b c.args.self.pos)) _ c.search-found.ensures.listed)
