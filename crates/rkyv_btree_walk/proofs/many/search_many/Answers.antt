-- Each level leads on to what the search finds, and none is left at the end.
use Rattle.std.proofs.Common.{◌≡◌, ℕ, ◌+◌, ◌-◌, arith, rules}
use Rattle.rkyv_btree_walk.specs.declared.many.Way.TheVariants.{On}
use Rattle.rkyv_btree_walk.specs.mirror.Many.{EachKey, way_at}
use Rattle.rkyv_btree_walk.specs.mirror.Node.{NodeCanBeRead}
use Rattle.rkyv_btree_walk.proofs.Nodes.{tree_node}
use Rattle.rkyv_btree_walk.proofs.Ways.{under_way_more, way_ends, end_stands, ends_at_last}
use Rattle.rkyv_btree_walk.proofs.many.search_many.Goals as goal

pub level_down-requires : goal.level_down-requires
level_down-requires g c κs =
    let nodes : EachKey c.args.keys.now (λ i key. (p : ℕ) → way_at c.loop-level.ways i ≡ On p → NodeCanBeRead g.K.Portable.kind g.V.Portable.kind g.M.ArchivedMap.E c.args.buf.now p) =
    λ i key less is p on. c.first_way-ways.ensures.nodes p (tree_node _ _ _ _ (32 - c.loop-level.level) p (rw on at (c.loop-level.invariant i key less is).stands)) in
    search rules

pub loop-level-preserved : goal.loop-level-preserved
loop-level-preserved g c k key less is =
    under_way_more _ _ _ _ _ _ key (32 - c.loop-level.level) (32 - (c.loop-level.level + 1)) _ _ (omega arith) (c.loop-level.invariant k key less is) (c.level_down.ensures.steps k key less is)

pub returns-after-loop-level-clause-found : goal.returns-after-loop-level-clause-found
returns-after-loop-level-clause-found g c k key less is f p =
    let so = c.loop-level.invariant k key less is in
    way_ends _ _ _ _ _ _ key (32 - c.loop-level.level) _ (ends_at_last _ _ _ _ (32 - c.loop-level.level) _ (omega arith) so.stands) so f p

pub returns-then-not-level_down-clause-stands : goal.returns-then-not-level_down-clause-stands
returns-then-not-level_down-clause-stands g c k key less is =
    end_stands _ _ _ _ _ _ key (32 - (c.loop-level.level + 1)) _ (under_way_more _ _ _ _ _ _ key (32 - c.loop-level.level) (32 - (c.loop-level.level + 1)) _ _ (omega arith) (c.loop-level.invariant k key less is) (c.level_down.ensures.steps k key less is))

pub returns-then-not-level_down-clause-found : goal.returns-then-not-level_down-clause-found
returns-then-not-level_down-clause-found g c k key less is f p =
    way_ends _ _ _ _ _ _ key (32 - (c.loop-level.level + 1)) _ (c.level_down.ensures.ended c.if-not-level_down.true k key less is) (under_way_more _ _ _ _ _ _ key (32 - c.loop-level.level) (32 - (c.loop-level.level + 1)) _ _ (omega arith) (c.loop-level.invariant k key less is) (c.level_down.ensures.steps k key less is)) f p
