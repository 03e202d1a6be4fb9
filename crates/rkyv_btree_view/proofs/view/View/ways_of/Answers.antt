-- A native value compares as at the positions of keys.
use Rattle.std.proofs.Common.{◌∙◌, rules}
use Rattle.rkyv_btree_view.proofs.ManyFound.{for_some, place_is}
use Rattle.rkyv_btree_view.proofs.view.View.ways_of.Goals as goal

pub returns : goal.returns
returns g c i key less is =
    let law = g.met.K.CompareWith.compares in
    let found = c.search_many.ensures.found i key less is law.compared (λ q w r e. let same = law.by_value q.now w.buf.now w.pos in search rules) in
    record {
      stands = for_some _ _ (c.search_many.ensures.stands i key less is);
      found = found ∙ place_is g.K.Portable.kind g.V.Portable.kind g.M.ArchivedMap.E g.K.CompareWith.compared_at c.args.self.buf.now c.args.self.pos key law.compared law.by_value;
    }
