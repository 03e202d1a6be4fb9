-- The source is the same after the read.
use Rattle.std.proofs.Common.{◌≡◌, ◌∙◌, ◌+◌, arith, length, refl, take}
use Rattle.std.proofs.lemmas.List.{length-take}
use Rattle.std.proofs.lemmas.Result.{IfErr-weaker, IfOk-weaker}
use Rattle.rkyv_btree_source.proofs.Lacking.{below, reading_lacks}
use Rattle.rkyv_btree_source.proofs.Spent.{spent_node}
use Rattle.rkyv_btree_source.proofs.Taking.{node_takes}
use Rattle.rkyv_btree_source.specs.Reads.{NodeBytes, Reads}
use Rattle.rkyv_btree_source.proofs.Knowing.{of_same}
use Rattle.rkyv_btree_source.proofs.search.search_node.Goals as goal

pub returns-clause-gives : goal.returns-clause-gives
returns-clause-gives g c b e f p m = c.search_bytes.ensures.gives b (of_same b c.in-Ok.ensures.same e) f p m

pub returns-clause-spent : goal.returns-clause-spent
returns-clause-spent g c =
    let inside = c.node_len.ensures.inside in
    let count : length (take c.node_len.result c.args.page.now) ≡ c.node_len.result = simp length-take (omega (arith, c.node_len.ensures.most, c.requires.page)) in
    spent_node _ _ _ _ (c.args.node + length c.read.new.part) c.args.hi g.M.ArchivedMap.E c.in-Ok.ensures.spent c.search_bytes.ensures.spent
    (omega (arith, count, inside)) (omega (arith, c.read.auto.part, count, inside))

pub returns-in-Err-clause-lacks : goal.returns-in-Err-clause-lacks
returns-in-Err-clause-lacks g c b e f p at before reads =
    let K = g.K.Portable.kind in let V = g.V.Portable.kind in let E = g.M.ArchivedMap.E in
    let count : length (take c.node_len.result c.args.page.now) ≡ c.node_len.result = simp length-take (omega (arith, c.node_len.ensures.most, c.requires.page)) in
    reading_lacks K V E b g.K.Fetch.lengths g.V.Fetch.lengths (Reads K V E b g.K.Fetch.lengths g.V.Fetch.lengths (f c.args.key.now) at) before (NodeBytes c.args.hi c.args.node) reads _ _ _ refl _ c.in-Err.fault _
    (count ∙ c.node_len.ensures.value) c.in-Err.ensures.fault

pub returns-clause-lacks : goal.returns-clause-lacks
returns-clause-lacks g c b e f p at before reads =
    let count : length (take c.node_len.result c.args.page.now) ≡ c.node_len.result = simp length-take (omega (arith, c.node_len.ensures.most, c.requires.page)) in
    IfErr-weaker c.search_bytes.result _ _
    (λ fault h. below g.K.Portable.kind g.V.Portable.kind g.M.ArchivedMap.E b g.K.Fetch.lengths g.V.Fetch.lengths (f c.args.key.now) fault at before c.args.hi c.args.node _ _ _ reads (omega (arith, count, c.node_len.ensures.value, c.in-Ok.ensures.counts)) h)
    (c.search_bytes.ensures.lacks b (of_same b c.in-Ok.ensures.same e) f p)

pub returns-clause-takes : goal.returns-clause-takes
returns-clause-takes g c b e f p =
    let count : length (take c.node_len.result c.args.page.now) ≡ c.node_len.result = simp length-take (omega (arith, c.node_len.ensures.most, c.requires.page)) in
    IfOk-weaker c.search_bytes.result _ _
    (λ step h. node_takes g.K.Portable.kind g.V.Portable.kind g.M.ArchivedMap.E b g.K.Fetch.lengths g.V.Fetch.lengths (f c.args.key.now) c.args.hi c.args.node _ _ _ _ step c.in-Ok.ensures.counts (count ∙ c.node_len.ensures.value) h)
    (c.search_bytes.ensures.takes b (of_same b c.in-Ok.ensures.same e) f p)

pub returns-clause-fits : goal.returns-clause-fits
returns-clause-fits g c b e f p = c.search_bytes.ensures.fits b (of_same b c.in-Ok.ensures.same e) f p
