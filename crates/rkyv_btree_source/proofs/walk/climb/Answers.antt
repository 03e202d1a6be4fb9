-- A node is taken from the path, and put back where it has an entry left.
use Rattle.std.proofs.Common.{◌∙◌, arith, sym}
use Rattle.rkyv_btree_format.proofs.Sizes.{room_of}
use Rattle.rkyv_btree_format.specs.Layout.{layout_of}
use Rattle.rkyv_btree_source.proofs.Faults.{passes_on}
use Rattle.rkyv_btree_source.proofs.Knowing.{of_same}
use Rattle.rkyv_btree_source.proofs.Walks.{entries_with, entry_never, low_parts, low_put, too_small_within, unread_of}
use Rattle.rkyv_btree_unverified.proofs.Chains.{way_placed}
use Rattle.rkyv_btree_unverified.proofs.Pending.{last_inside}
use Rattle.rkyv_btree_unverified.proofs.Taken.{climb_fails, climbed, climbs_on}
use Rattle.rkyv_btree_source.proofs.walk.climb.Goals as goal

pub bring_entry-requires-clause-leaf : goal.bring_entry-requires-clause-leaf
bring_entry-requires-clause-leaf g c =
    let room = room_of _ _ _ g.met.K.Portable.laws g.met.V.Portable.laws c.requires.fitting in
    omega (arith, room.parts.leaf, c.inner_size-len.ensures)

pub bring_entry-requires-clause-small : goal.bring_entry-requires-clause-small
bring_entry-requires-clause-small g c =
    let parts = low_parts g.K.Portable.kind g.V.Portable.kind g.M.ArchivedMap.E c.args.pos c.pop.new.self.items _ _ c.in-Some.index c.in-Some.ensures.items c.up.invariant.low in
    omega (arith, parts.1, c.inner_size-len.ensures, c.ranges.pos.fits)

pub bring_entry-requires-clause-inside : goal.bring_entry-requires-clause-inside
bring_entry-requires-clause-inside g c b e =
    let way = (c.up.invariant.climbing b (of_same b (sym c.up.invariant.same) e)).way in
    let placed = way_placed (layout_of g.K.Portable.kind g.V.Portable.kind g.M.ArchivedMap.E) b c.args.pos c.pop.new.self.items _ _ _ c.in-Some.ensures.items way in
    let inside = (last_inside g.K.Portable.kind g.V.Portable.kind g.M.ArchivedMap.E b c.args.pos c.pop.new.self.items _ _ c.in-Some.index c.in-Some.ensures.items way).room in
    (placed.short, omega (arith, inside, c.inner_size-len.ensures))

pub overflow_add-index : goal.overflow_add-index
overflow_add-index g c =
    let room = room_of _ _ _ g.met.K.Portable.laws g.met.V.Portable.laws c.requires.fitting in
    omega (arith, room.entries, c.if-index-entries_per_node.true, c.entries_per_node.ensures)

pub returns-in-Err-clause-gives : goal.returns-in-Err-clause-gives
returns-in-Err-clause-gives g c b e =
    let K = g.K.Portable.kind in let V = g.V.Portable.kind in let E = g.M.ArchivedMap.E in
    let k = g.met.K.Portable.laws in let v = g.met.V.Portable.laws in let fits = c.requires.fitting in
    let room = room_of K V E k v fits in
    let low = rw c.entries_per_node.ensures at c.if-index-entries_per_node.true in
    let inv = c.up.invariant.climbing b e in
    let KR = g.K.CheckBytes.Refuses in let VR = g.V.CheckBytes.Refuses in (
      passes_on _ _
          (λ r bad. climb_fails K V E b k v fits c.args.pos _ c.pop.new.self.items _ _ c.in-Some.index c.in-Some.ensures.items inv KR VR r low bad
          (entry_never K V E b k v KR VR (g.met.K.CheckBytes.refusals room.key) (g.met.V.CheckBytes.refusals room.value) _ r bad))
          c.in-Err.fault (c.in-Err.ensures.brings b (of_same b c.up.invariant.same e)),
      unread_of _ c.in-Err.fault (rw (c.push.ensures.items ∙ sym c.in-Some.ensures.items) (record { way = inv.way; few = inv.few; most = inv.most; rest = inv.rest })),
    )

pub returns-in-Ok-clause-low : goal.returns-in-Ok-clause-low
returns-in-Ok-clause-low g c =
    let K = g.K.Portable.kind in let V = g.V.Portable.kind in let E = g.M.ArchivedMap.E in
    let low = rw c.entries_per_node.ensures at c.if-index-entries_per_node.true in
    let parts = low_parts K V E c.args.pos c.pop.new.self.items _ _ c.in-Some.index c.in-Some.ensures.items c.up.invariant.low in
    low_put K V E c.args.pos c.pop.new.self.items _ c.in-Some.node _ c.push-in-Ok.ensures.items parts.3 parts.0 parts.1 (omega (arith, low))

pub returns-in-Ok-clause-gives : goal.returns-in-Ok-clause-gives
returns-in-Ok-clause-gives g c b e =
    let K = g.K.Portable.kind in let V = g.V.Portable.kind in let E = g.M.ArchivedMap.E in
    let low = rw c.entries_per_node.ensures at c.if-index-entries_per_node.true in
    let inv = c.up.invariant.climbing b e in
    let brings = c.in-Ok.ensures.brings b (of_same b c.up.invariant.same e) in (
      (c.in-Some.node, c.in-Some.index),
      climbed K V E b g.met.K.Portable.laws g.met.V.Portable.laws c.requires.fitting c.args.pos _ c.pop.new.self.items _ _ c.in-Some.index c.in-Some.ensures.items inv _ c.push-in-Ok.ensures.items low brings.stands,
      brings,
    )

pub up-preserved : goal.up-preserved
up-preserved g c =
    let K = g.K.Portable.kind in let V = g.V.Portable.kind in let E = g.M.ArchivedMap.E in
    let high = rw c.entries_per_node.ensures at c.if-index-entries_per_node.false in
    let parts = low_parts K V E c.args.pos c.pop.new.self.items _ _ c.in-Some.index c.in-Some.ensures.items c.up.invariant.low in
    record {
      low = parts.0;
      climbing = λ b e. climbs_on K V E b g.met.K.Portable.laws g.met.V.Portable.laws c.requires.fitting c.args.pos _ c.pop.new.self.items _ _ c.in-Some.index c.in-Some.ensures.items (c.up.invariant.climbing b e) high;
      most = omega (arith, entries_with E c.pop.new.self.items _ _ c.in-Some.index c.in-Some.ensures.items, c.up.invariant.most);
      same = c.up.invariant.same;
      left = c.up.invariant.left;
      page = c.up.invariant.page;
      room = c.up.invariant.room;
    }

pub returns-in-Err-clause-caused : goal.returns-in-Err-clause-caused
returns-in-Err-clause-caused g c =
    let parts = low_parts g.K.Portable.kind g.V.Portable.kind g.M.ArchivedMap.E c.args.pos c.pop.new.self.items _ _ c.in-Some.index c.in-Some.ensures.items c.up.invariant.low in
    rw (← c.up.invariant.room) (too_small_within _ _ _ _ _ c.in-Err.fault (omega (arith, parts.1, c.inner_size-len.ensures)) c.in-Err.ensures.caused)

pub returns-in-Err-clause-most : goal.returns-in-Err-clause-most
returns-in-Err-clause-most g c =
    let E = g.M.ArchivedMap.E in
    omega (arith, entries_with E c.pop.new.self.items _ _ c.in-Some.index c.in-Some.ensures.items, entries_with E c.pop.new.self.items _ _ c.in-Some.index c.push.ensures.items, c.up.invariant.most)

pub returns-in-Ok-clause-most : goal.returns-in-Ok-clause-most
returns-in-Ok-clause-most g c =
    let E = g.M.ArchivedMap.E in
    omega (arith, entries_with E c.pop.new.self.items _ _ c.in-Some.index c.in-Some.ensures.items, entries_with E c.pop.new.self.items _ _ _ c.push-in-Ok.ensures.items, c.up.invariant.most)

pub returns-in-Ok-clause-fewer : goal.returns-in-Ok-clause-fewer
returns-in-Ok-clause-fewer g c =
    let E = g.M.ArchivedMap.E in
    let low = rw c.entries_per_node.ensures at c.if-index-entries_per_node.true in
    omega (arith, low, entries_with E c.pop.new.self.items _ _ c.in-Some.index c.in-Some.ensures.items, entries_with E c.pop.new.self.items _ _ _ c.push-in-Ok.ensures.items, c.up.invariant.most)
