-- The way ends where the search of the leaf stops.
use Rattle.rkyv_btree_format.specs.Layout.{layout_of}
use Rattle.rkyv_btree_walk.proofs.Searches.{leaf_counted, leaf_alone}
use Rattle.rkyv_btree_walk.proofs.Ways.{step_finds, step_ends}
use Rattle.rkyv_btree_walk.proofs.many.end_in_leaf.Goals as goal

pub returns-in-At : goal.returns-in-At
returns-in-At g c =
    step_finds _ _ _ _ _ _ c.args.node c.leaf_count-count.result (leaf_counted (layout_of g.K.Portable.kind g.V.Portable.kind g.M.ArchivedMap.E) c.args.buf.now c.args.node c.requires.leaf c.leaf_count-count.ensures) c.in-At.i c.requires.node.node c.in-At.ensures.within c.in-At.ensures.stops

pub returns-in-Before : goal.returns-in-Before
returns-in-Before g c =
    step_ends _ _ _ _ _ _ c.args.node c.leaf_count-count.result (leaf_counted (layout_of g.K.Portable.kind g.V.Portable.kind g.M.ArchivedMap.E) c.args.buf.now c.args.node c.requires.leaf c.leaf_count-count.ensures) c.in-Before.field-0 c.in-Before.ensures.stops (leaf_alone (layout_of g.K.Portable.kind g.V.Portable.kind g.M.ArchivedMap.E) c.args.buf.now c.args.node c.in-Before.field-0 c.requires.leaf)
