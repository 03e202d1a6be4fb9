-- Each level leads on to what the lookup gives, and none is left at the end.
use Rattle.std.proofs.Common.{◌+◌, ◌-◌, arith, rules}
use Rattle.std.proofs.lemmas.List.{get_or-replicate}
use Rattle.rkyv_btree_unverified.proofs.ManyWays.{under_way_more, way_ends, last_ends, end_stands}
use Rattle.rkyv_btree_unverified.specs.Ends.{way_at}
use Rattle.rkyv_btree_unverified.specs.declared.many.UnverifiedWay.TheVariants.{On}
use Rattle.rkyv_btree_unverified.specs.mirror.Many.{WayStands}
use Rattle.rkyv_btree_walk.specs.mirror.Many.{EachKey}
use Rattle.rkyv_btree_unverified.proofs.many.search_many.Goals as goal

pub level_down-requires : goal.level_down-requires
level_down-requires g c κs =
    let K = g.K.Portable.kind in let V = g.V.Portable.kind in
    let stand : EachKey c.args.keys.now (λ i key. WayStands K V g.M.ArchivedMap.E c.args.buf.now (way_at c.loop-level.ways i)) =
    λ i key less is. (c.loop-level.invariant i key less is).stands in
    search rules

pub loop-level-preserved : goal.loop-level-preserved
loop-level-preserved g c k key less is =
    under_way_more _ _ _ _ _ _ _ key _ (32 - c.loop-level.level) (32 - (c.loop-level.level + 1)) _ _ (omega arith) (c.loop-level.invariant k key less is) (c.level_down.ensures.steps k key less is)

pub returns-after-loop-level-clause-stands : goal.returns-after-loop-level-clause-stands
returns-after-loop-level-clause-stands g c k key less is = end_stands _ _ _ _ _ _ _ key _ (32 - c.loop-level.level) _ (c.loop-level.invariant k key less is)

pub returns-after-loop-level-clause-gives : goal.returns-after-loop-level-clause-gives
returns-after-loop-level-clause-gives g c k key less is f p = last_ends _ _ _ _ _ _ _ key _ (32 - c.loop-level.level) _ (omega arith) (c.loop-level.invariant k key less is) f p

pub returns-then-not-level_down-clause-stands : goal.returns-then-not-level_down-clause-stands
returns-then-not-level_down-clause-stands g c k key less is =
    end_stands _ _ _ _ _ _ _ key _ (32 - (c.loop-level.level + 1)) _
    (under_way_more _ _ _ _ _ _ _ key _ (32 - c.loop-level.level) (32 - (c.loop-level.level + 1)) _ _ (omega arith) (c.loop-level.invariant k key less is) (c.level_down.ensures.steps k key less is))

pub returns-then-not-level_down-clause-gives : goal.returns-then-not-level_down-clause-gives
returns-then-not-level_down-clause-gives g c k key less is f p =
    way_ends _ _ _ _ _ _ _ key _ (32 - (c.loop-level.level + 1)) _ (c.level_down.ensures.ended c.if-not-level_down.true k key less is)
    (under_way_more _ _ _ _ _ _ _ key _ (32 - c.loop-level.level) (32 - (c.loop-level.level + 1)) _ _ (omega arith) (c.loop-level.invariant k key less is) (c.level_down.ensures.steps k key less is)) f p

pub loop-level-init : goal.loop-level-init
loop-level-init g c k key less is =
    let same = get_or-replicate 16 k c.first_way-ways.result (On 0 0) less in
    rw same (record { stands = c.first_way-ways.ensures.stands; gives = λ f p r given. c.first_way-ways.ensures.gives (f key) r given })
