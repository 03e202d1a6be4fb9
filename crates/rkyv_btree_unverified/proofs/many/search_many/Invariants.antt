-- What is left of each way is what a lookup gives.
use Rattle.std.proofs.Common.{◌-◌}
use Rattle.rkyv_btree_unverified.specs.Ends.{way_at}
use Rattle.rkyv_btree_unverified.specs.mirror.Many.{IsUnderWay}
use Rattle.rkyv_btree_walk.specs.Search.{shown_value}
use Rattle.rkyv_btree_walk.specs.mirror.Many.{EachKey}
use Rattle.rkyv_btree_walk.specs.mirror.Search.{IsComparedBy}
use Rattle.rkyv_btree_unverified.proofs.many.search_many.Given as goal

abbrev pub invariant-loop-level : goal.invariant-loop-level
invariant-loop-level g l =
    let K = g.K.Portable.kind in let V = g.V.Portable.kind in
    let Compares = IsComparedBy (goal.C-post g l.cmp) (shown_value K g.W.Shows) in
    EachKey l.keys (λ i key. IsUnderWay K V g.M.ArchivedMap.E l.buf g.K.CheckBytes.Refuses g.V.CheckBytes.Refuses Compares l.pos key (32 - l.level) (way_at l.ways i))
