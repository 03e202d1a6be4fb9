-- What the search finds is an entry of the map.
use Rattle.std.proofs.Common.{ap, sym, ◌∙◌, rules}
use Rattle.rkyv_btree_seal.proofs.Found.{finds_place, place_listed}
use Rattle.rkyv_btree_seal.proofs.map_seal.MapSeal.find_by.Goals as goal

pub returns-clause-finds : goal.returns-clause-finds
returns-clause-finds g c f p =
    let found = c.search-found.ensures.found f (λ q w r e. let same = p q.now w.buf.now w.pos in search rules) in
    finds_place g.K.Portable.kind g.V.Portable.kind g.M.ArchivedMap.E c.args.self.now.buf.now c.args.self.now.pos (f c.args.key) _ (c.found_place.ensures ∙ ap (λ r. r.0) found)

pub returns-clause-entry : goal.returns-clause-entry
returns-clause-entry g c = place_listed g.K.Portable.kind g.V.Portable.kind g.M.ArchivedMap.E c.args.self.now.buf.now c.args.self.now.pos _ _ (sym c.found_place.ensures) c.search-found.ensures.listed
