-- What is left of each way is what its search finds.
use Rattle.std.proofs.Common.{◌-◌}
use Rattle.rkyv_btree_walk.specs.Search.{shown_value}
use Rattle.rkyv_btree_walk.specs.mirror.Many.{EachKey, IsUnderWay, way_at}
use Rattle.rkyv_btree_walk.specs.mirror.Search.{IsComparedBy}
use Rattle.rkyv_btree_walk.proofs.many.search_many.Given as goal

abbrev pub invariant-loop-level : goal.invariant-loop-level
invariant-loop-level g l =
    EachKey l.keys (λ i key. IsUnderWay g.K.Portable.kind g.V.Portable.kind g.M.ArchivedMap.E l.buf (IsComparedBy (goal.C-post g l.cmp) (shown_value g.K.Portable.kind g.W.Shows)) l.pos key (32 - l.level) (way_at l.ways i))
