-- A node is taken from the path, and put back with its next entry where it has one.
use Rattle.std.proofs.Common.{arith}
use Rattle.rkyv_btree_format.proofs.Sizes.{room_of}
use Rattle.rkyv_btree_format.specs.Layout.{layout_of}
use Rattle.rkyv_btree_unverified.proofs.Chains.{way_short}
use Rattle.rkyv_btree_unverified.proofs.Taken.{climb_short, climb_inside, climb_fails, climbed, climbs_on, climb_ends, none_of}
use Rattle.rkyv_btree_unverified.proofs.walk.climb.Goals as goal

pub check_entry-requires-clause-short : goal.check_entry-requires-clause-short
check_entry-requires-clause-short g c = climb_short g.K.Portable.kind g.V.Portable.kind g.M.ArchivedMap.E c.args.buf.now g.met.K.Portable.laws g.met.V.Portable.laws c.requires.fitting c.args.pos _ c.pop.new.self.items _ _ c.in-Some.index c.in-Some.ensures.items c.up.invariant

pub check_entry-requires-clause-inside : goal.check_entry-requires-clause-inside
check_entry-requires-clause-inside g c = climb_inside g.K.Portable.kind g.V.Portable.kind g.M.ArchivedMap.E c.args.buf.now g.met.K.Portable.laws g.met.V.Portable.laws c.requires.fitting c.args.pos _ c.pop.new.self.items _ _ c.in-Some.index c.in-Some.ensures.items c.up.invariant

pub overflow_add-index : goal.overflow_add-index
overflow_add-index g c =
    let room = room_of _ _ _ g.met.K.Portable.laws g.met.V.Portable.laws c.requires.fitting in
    omega (arith, room.entries, c.if-index-entries_per_node.true, c.entries_per_node.ensures)

pub push-requires : goal.push-requires
push-requires g c =
    let short = way_short (layout_of g.K.Portable.kind g.V.Portable.kind g.M.ArchivedMap.E) c.args.buf.now c.args.pos c.pop.new.self.items _ _ _ c.in-Some.ensures.items c.up.invariant.way in
    (omega arith, omega (arith, short))

pub returns-in-Err : goal.returns-in-Err
returns-in-Err g c =
    let low = rw c.entries_per_node.ensures at c.if-index-entries_per_node.true in
    record {
      takes = climb_fails g.K.Portable.kind g.V.Portable.kind g.M.ArchivedMap.E c.args.buf.now g.met.K.Portable.laws g.met.V.Portable.laws c.requires.fitting c.args.pos _ c.pop.new.self.items _ _ c.in-Some.index c.in-Some.ensures.items c.up.invariant _ _ _ low
          c.in-Err.ensures.refused (λ h. cc (c.in-Err.ensures.accepts h));
    }

pub returns-in-Ok : goal.returns-in-Ok
returns-in-Ok g c =
    let low = rw c.entries_per_node.ensures at c.if-index-entries_per_node.true in
    record {
      takes = climbed g.K.Portable.kind g.V.Portable.kind g.M.ArchivedMap.E c.args.buf.now g.met.K.Portable.laws g.met.V.Portable.laws c.requires.fitting c.args.pos _ c.pop.new.self.items _ _ c.in-Some.index c.in-Some.ensures.items c.up.invariant _ c.push.ensures.items low
          c.in-Ok.ensures.stands;
    }

pub up-preserved : goal.up-preserved
up-preserved g c =
    let high = rw c.entries_per_node.ensures at c.if-index-entries_per_node.false in
    climbs_on g.K.Portable.kind g.V.Portable.kind g.M.ArchivedMap.E c.args.buf.now g.met.K.Portable.laws g.met.V.Portable.laws c.requires.fitting c.args.pos _ c.pop.new.self.items _ _ c.in-Some.index c.in-Some.ensures.items c.up.invariant high

pub returns : goal.returns
returns g c = record { takes = climb_ends g.K.Portable.kind g.V.Portable.kind g.M.ArchivedMap.E c.args.buf.now c.args.pos _ c.up.path.items (none_of _ (λ some. cc (c.in_default.ensures.variant.1 some))) c.up.invariant }
