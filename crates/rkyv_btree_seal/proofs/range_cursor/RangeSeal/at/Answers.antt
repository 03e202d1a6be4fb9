-- Keys compare as what their views read.
use Rattle.std.proofs.Common.{◌∙◌, refl, rules}
use Rattle.rkyv_btree_format.specs.Read.{read_map}
use Rattle.rkyv_btree_view.proofs.Bounds.{within_referred}
use Rattle.rkyv_btree_view.proofs.Ordered.{between}
use Rattle.rkyv_btree_view.specs.View.{view_value}
use Rattle.rkyv_btree_view.specs.laws.Cuts.{order_cuts}
use Rattle.rkyv_btree_seal.proofs.range_cursor.RangeSeal.at.Goals as goal

pub returns-clause-between : goal.returns-clause-between
returns-clause-between g c =
    let K = g.K.Portable.kind in
    let within = c.start_between-walk.ensures.within (λ q x. K.order (view_value q) x) (λ q w r e. search rules) in
    between K.order (read_map K g.V.Portable.kind g.M.ArchivedMap.E c.args.buf.now c.args.pos) _ (λ q. K.order (view_value q)) (λ q. K.order (view_value q))
    (λ q. order_cuts g.met.K.ViewOrd.total (view_value q)) (λ q i d less. refl) c.args.low.now c.args.high.now
    (λ low high. c.over.ensures.entries ∙ within_referred (λ q. K.order (view_value q)) c.as_ref.result c.as_ref-2.result c.args.low.now c.args.high.now _ _ c.as_ref.ensures c.as_ref-2.ensures within low high)
