-- The ways before this one have taken their steps, and the others are as they were.
use Rattle.std.proofs.Common.{◌≡◌, length}
use Rattle.rkyv_btree_unverified.specs.Ends.{way_at}
use Rattle.rkyv_btree_unverified.specs.mirror.Many.{HasEnded, Steps}
use Rattle.rkyv_btree_walk.specs.Search.{shown_value}
use Rattle.rkyv_btree_walk.specs.mirror.Many.{EachKey, SoFar}
use Rattle.rkyv_btree_walk.specs.mirror.Search.{IsComparedBy}
use Rattle.rkyv_btree_unverified.proofs.many.level_down.Given as goal

abbrev pub invariant-loop-i : goal.invariant-loop-i
invariant-loop-i g l =
    let K = g.K.Portable.kind in let V = g.V.Portable.kind in
    let Compares = IsComparedBy (goal.C-post g l.cmp) (shown_value K g.W.Shows) in
    (length l.ways ≡ 16)
    × EachKey l.keys (λ i key. SoFar HasEnded (Steps K V g.M.ArchivedMap.E l.buf g.K.CheckBytes.Refuses g.V.CheckBytes.Refuses Compares key) i l.i l.going (way_at l.initial.ways i) (way_at l.ways i))
