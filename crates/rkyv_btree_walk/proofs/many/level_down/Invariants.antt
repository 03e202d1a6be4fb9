-- The ways before this one have taken their steps, and the others are as they were.
use Rattle.std.proofs.Common.{◌≡◌, length}
use Rattle.rkyv_btree_walk.specs.Search.{shown_value}
use Rattle.rkyv_btree_walk.specs.mirror.Many.{EachKey, HasEnded, SoFar, Steps, way_at}
use Rattle.rkyv_btree_walk.specs.mirror.Search.{IsComparedBy}
use Rattle.rkyv_btree_walk.proofs.many.level_down.Given as goal

abbrev pub invariant-loop-i : goal.invariant-loop-i
invariant-loop-i g l =
    (length l.ways ≡ 16)
    × EachKey l.keys (λ i key. SoFar HasEnded (Steps g.K.Portable.kind g.V.Portable.kind g.M.ArchivedMap.E l.buf (IsComparedBy (goal.C-post g l.cmp) (shown_value g.K.Portable.kind g.W.Shows)) key) i l.i l.going (way_at l.initial.ways i) (way_at l.ways i))
