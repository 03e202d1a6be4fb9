-- The way ends at an entry, or goes on in the child where the search of the node stops.
use Rattle.std.proofs.Common.{◌∙◌, arith, sym}
use Rattle.rkyv_btree_format.proofs.Sizes.{room_of}
use Rattle.rkyv_btree_format.specs.Layout.{layout_of}
use Rattle.rkyv_btree_walk.proofs.Searches.{inner_counted}
use Rattle.rkyv_btree_walk.proofs.Ways.{step_finds, step_ends, step_goes}
use Rattle.rkyv_btree_walk.proofs.many.go_below.Goals as goal

pub overflow_cast-count : goal.overflow_cast-count
overflow_cast-count g c =
    let room = room_of _ _ _ g.met.K.Portable.laws g.met.V.Portable.laws c.requires.node.fitting in
    omega (arith, room.entries, c.entries_per_node-count.ensures)

pub returns-in-At : goal.returns-in-At
returns-in-At g c =
    step_finds _ _ _ _ _ _ c.args.node c.entries_per_node-count.result (inner_counted (layout_of g.K.Portable.kind g.V.Portable.kind g.M.ArchivedMap.E) c.args.buf.now c.args.node c.requires.inner c.entries_per_node-count.ensures) c.in-At.i c.requires.node.node c.in-At.ensures.within c.in-At.ensures.stops

pub returns-in-None : goal.returns-in-None
returns-in-None g c =
    step_ends _ _ _ _ _ _ c.args.node c.entries_per_node-count.result (inner_counted (layout_of g.K.Portable.kind g.V.Portable.kind g.M.ArchivedMap.E) c.args.buf.now c.args.node c.requires.inner c.entries_per_node-count.ensures) c.in-Before.i c.in-Before.ensures.stops (sym c.child.ensures ∙ c.in-None.is)

pub returns-in-Some : goal.returns-in-Some
returns-in-Some g c =
    step_goes _ _ _ _ _ _ c.args.node c.entries_per_node-count.result (inner_counted (layout_of g.K.Portable.kind g.V.Portable.kind g.M.ArchivedMap.E) c.args.buf.now c.args.node c.requires.inner c.entries_per_node-count.ensures) c.in-Before.i c.in-Before.ensures.stops c.in-Some.below (omega (arith, c.in-Before.ensures.within, c.entries_per_node-count.ensures)) (sym c.child.ensures ∙ c.in-Some.is)
