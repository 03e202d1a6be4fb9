-- A native value compares as at the positions of keys.
use Rattle.std.proofs.Common.{◌∙◌, rules}
use Rattle.rkyv_btree_format.specs.Read.{read_map}
use Rattle.rkyv_btree_view.proofs.Bounds.{within_referred}
use Rattle.rkyv_btree_view.proofs.LookedUp.{natives_agree}
use Rattle.rkyv_btree_view.proofs.Ordered.{between, natives_alike}
use Rattle.rkyv_btree_seal.proofs.range_cursor.RangeSeal.by.Goals as goal

pub returns-clause-between : goal.returns-clause-between
returns-clause-between g c f p =
    let K = g.K.Portable.kind in let V = g.V.Portable.kind in let E = g.M.ArchivedMap.E in
    let b = c.args.buf.now in
    let at = c.args.pos in
    let law = g.met.K.CompareWith.compares in
    let within = c.start_between-walk.ensures.within f (λ q w r e. let same = p q.now w.buf.now w.pos in search rules) in
    between K.order (read_map K V E b at) _ f law.compared law.cuts (λ q. natives_alike K V E b at (f q) (law.compared q) (natives_agree law f p q b)) c.args.low c.args.high
    (λ low high. c.over.ensures.entries ∙ within_referred f c.as_ref.result c.as_ref-2.result c.args.low c.args.high _ _ c.as_ref.ensures c.as_ref-2.ensures within low high)
