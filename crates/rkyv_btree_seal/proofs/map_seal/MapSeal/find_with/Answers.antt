-- What the search finds is an entry of the map.
use Rattle.std.proofs.Common.{ap, sym, ◌∙◌, rules}
use Rattle.rkyv_btree_seal.proofs.Found.{finds_place, place_listed}
use Rattle.rkyv_btree_seal.proofs.map_seal.MapSeal.find_with.Goals as goal

pub returns-clause-entry : goal.returns-clause-entry
returns-clause-entry g c = place_listed g.K.Portable.kind g.V.Portable.kind g.M.ArchivedMap.E c.args.self.now.buf.now c.args.self.now.pos _ _ (sym c.found_place.ensures) c.search-found.ensures.listed

pub returns-clause-finds : goal.returns-clause-finds
returns-clause-finds g c f p =
    let found = c.search-found.ensures.found f (λ q w r e. let by = p q w in search rules) in
    finds_place g.K.Portable.kind g.V.Portable.kind g.M.ArchivedMap.E c.args.self.now.buf.now c.args.self.now.pos (f c.args.key.now) _ (c.found_place.ensures ∙ ap (λ r. r.0) found)
