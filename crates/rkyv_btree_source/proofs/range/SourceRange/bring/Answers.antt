-- A step of the walk, whatever is left of the range.
use Rattle.std.proofs.Common.{◌≡◌, ◌∙◌, Some, false, sym, true}
use Rattle.rkyv_btree_source.proofs.Knowing.{of_same}
use Rattle.rkyv_btree_source.proofs.Ranging.{brings_on, refused_alike}
use Rattle.rkyv_btree_source.proofs.range.SourceRange.bring.Goals as goal

pub returns-then-not-is_refused-clause-brings : goal.returns-then-not-is_refused-clause-brings
returns-then-not-is_refused-clause-brings g c b e known =
    let K = g.K.Portable.kind in let V = g.V.Portable.kind in let E = g.M.ArchivedMap.E in
    let there = of_same b c.in-Ok.ensures.others.2 e in
    brings_on K V E b c.args.self.now.map.pos c.in-Ok.walk c.step-taken.new.walk (c.in-Ok.ensures.counted b e) g.K.CheckBytes.Refuses g.V.CheckBytes.Refuses c.step-taken.new.room g.K.CompareWith.compared_at
    (g.R.RangeBounds.start_bound c.args.self.now.range) (g.R.RangeBounds.end_bound c.args.self.now.range) c.args.self.now.walk (c.in-Ok.ensures.sought b e known) (c.in-Ok.ensures.most b) c.step-taken.result
    (rw (← c.in-Ok.ensures.others.1) (c.step-taken.ensures.gives b there)) (rw (← c.in-Ok.ensures.others.1) (c.step-taken.ensures.walks b there))

pub returns-else-not-is_refused-clause-brings : goal.returns-else-not-is_refused-clause-brings
returns-else-not-is_refused-clause-brings g c b e known =
    let K = g.K.Portable.kind in let V = g.V.Portable.kind in let E = g.M.ArchivedMap.E in
    let there = of_same b c.in-Ok.ensures.others.2 e in
    refused_alike K V E b c.args.self.now.map.pos g.K.CheckBytes.Refuses g.V.CheckBytes.Refuses c.step-taken.new.room g.K.CompareWith.compared_at
    (g.R.RangeBounds.start_bound c.args.self.now.range) (g.R.RangeBounds.end_bound c.args.self.now.range) c.args.self.now.walk (Some c.step-taken.new.walk) c.take_walk.new.self.walk c.step-taken.result (λ none. let never : true ≡ false = sym c.if-not-is_refused.false ∙ (c.is_refused.ensures ∙ none) in cc never)
    (brings_on K V E b c.args.self.now.map.pos c.in-Ok.walk c.step-taken.new.walk (c.in-Ok.ensures.counted b e) g.K.CheckBytes.Refuses g.V.CheckBytes.Refuses c.step-taken.new.room g.K.CompareWith.compared_at
    (g.R.RangeBounds.start_bound c.args.self.now.range) (g.R.RangeBounds.end_bound c.args.self.now.range) c.args.self.now.walk (c.in-Ok.ensures.sought b e known) (c.in-Ok.ensures.most b) c.step-taken.result
    (rw (← c.in-Ok.ensures.others.1) (c.step-taken.ensures.gives b there)) (rw (← c.in-Ok.ensures.others.1) (c.step-taken.ensures.walks b there)))
