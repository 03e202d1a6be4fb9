use Rattle.std.proofs.Common.{◌≡◌, ◌+◌, ◌-◌, ◌≤◌, ◌<◌, ◌∙◌, ◌++◌, List, Option, length, map, replicate, vec_len, Some, None, inl, inr, refl, sym, ap, subst, arith}
use Rattle.std.proofs.lemmas.Result.{err_from_is_err_and}
use Rattle.std.specs.Option.{option_copied}
use Rattle.rkyv_btree_format.specs.Layout.{layout_of, leaf_size}
use Rattle.rkyv_btree_format.proofs.Sizes.{room_of}
use Rattle.rkyv_btree_writing_laws.specs.Entries.{both_borrowed}
use Rattle.rkyv_btree_writing_laws.specs.Image.{leaf_image}
use Rattle.rkyv_btree_writing_laws.specs.Written.{NodeWritten, NodeStopped}
use Rattle.rkyv_btree_archive.specs.mirror.Source.{Gives, key_before, last_taken}
use Rattle.rkyv_btree_archive.proofs.WholeTree.{next_absent, next_leaf, next_leaf_stopped, next_leaf_short}
use Rattle.rkyv_btree_archive.proofs.Stands.{stands_first, first_fault, sizes, stands_closed, closed_fault, entry_short, goes_on, goes_room, goes_counts, stands_next, next_fault, stands_whole, stands_none, stands_taken, Stands, turn_taken, turn_entry, some_leaf, some_count, none_left, fewer_open, closing_less, level_fits, taken_fits, fits_below, all_claimed}
use Rattle.rkyv_btree_archive.specs.mirror.Passing.{NextWritten}
use Rattle.rkyv_btree_archive.proofs.Sources.{same_lists, popped, entry_given, none_given, leaf_given, leaf_short}
use Rattle.rkyv_btree_archive.proofs.tree.write_tree.Goals as goal

pub overflow_sub-len : goal.overflow_sub-len
overflow_sub-len g c =
    let some = (room_of g.K.Portable.kind g.V.Portable.kind g.row.E g.met.K.Portable.laws g.met.V.Portable.laws c.requires.fitting).some in
    let front = c.in-Some.ensures.some.0 in
    let eq = c.in-Some.ensures.some.1 in
    let inv = c.loop-first.invariant in
    let sz = sizes (layout_of g.K.Portable.kind g.V.Portable.kind g.row.E) g.KU.Archive.archival g.VU.Archive.archival (both_borrowed g.BKU.Borrow.borrowed g.BVU.Borrow.borrowed) (Gives g.I.Iterator.next_gives g.L.Look.passes g.L.Look.stops) c.args.above c.args.on_last (c.args.source.now, None) (g.W.Writer.state c.args.writer.now) some c.loop-first.levels c.loop-first.left c.loop-first.taken c.loop-first.waiting.items c.loop-first.children.items c.loop-first.starts.items front c.in-Some.first c.loop-first.child (c.loop-first.source, last_taken c.loop-first.waiting.items c.loop-first.leaf.items) (g.W.Writer.state c.loop-first.writer) inv.stands eq in
    omega (arith, sz.first_low, c.len-in-Some.ensures, c.loop-first.waiting.ok.0)

pub write_above-requires-clause-children : goal.write_above-requires-clause-children
write_above-requires-clause-children g c =
    let some = (room_of g.K.Portable.kind g.V.Portable.kind g.row.E g.met.K.Portable.laws g.met.V.Portable.laws c.requires.fitting).some in
    let front = c.in-Some.ensures.some.0 in
    let eq = c.in-Some.ensures.some.1 in
    let inv = c.loop-first.invariant in
    let sz = sizes (layout_of g.K.Portable.kind g.V.Portable.kind g.row.E) g.KU.Archive.archival g.VU.Archive.archival (both_borrowed g.BKU.Borrow.borrowed g.BVU.Borrow.borrowed) (Gives g.I.Iterator.next_gives g.L.Look.passes g.L.Look.stops) c.args.above c.args.on_last (c.args.source.now, None) (g.W.Writer.state c.args.writer.now) some c.loop-first.levels c.loop-first.left c.loop-first.taken c.loop-first.waiting.items c.loop-first.children.items c.loop-first.starts.items front c.in-Some.first c.loop-first.child (c.loop-first.source, last_taken c.loop-first.waiting.items c.loop-first.leaf.items) (g.W.Writer.state c.loop-first.writer) inv.stands eq in
    let z : length c.loop-first.children.items ≡ c.in-Some.first + g.row.E = omega (arith, sz.children_count, sz.first_low, c.if-len-first.true, c.len-in-Some.ensures, c.loop-first.waiting.ok.0) in
    z

pub write_above-requires-clause-free : goal.write_above-requires-clause-free
write_above-requires-clause-free g c =
    c.loop-first.invariant.free

pub returns-in_err-root-clause-err : goal.returns-in_err-root-clause-err
returns-in_err-root-clause-err g c =
    let some = (room_of g.K.Portable.kind g.V.Portable.kind g.row.E g.met.K.Portable.laws g.met.V.Portable.laws c.requires.fitting).some in
    let front = c.in-Some.ensures.some.0 in
    let eq = c.in-Some.ensures.some.1 in
    let inv = c.loop-first.invariant in
    let all : length c.loop-first.waiting.items - c.in-Some.first ≡ g.row.E = omega (arith, c.if-len-first.true, c.len-in-Some.ensures, c.loop-first.waiting.ok.0) in
    let p = err_from_is_err_and c.from_residual-in_err-root.result c.from_residual-in_err-root.ensures.1 in
    rw (p.1, p.2) (inl (closed_fault (layout_of g.K.Portable.kind g.V.Portable.kind g.row.E) g.KU.Archive.archival g.VU.Archive.archival (both_borrowed g.BKU.Borrow.borrowed g.BVU.Borrow.borrowed) (Gives g.I.Iterator.next_gives g.L.Look.passes g.L.Look.stops) c.args.above c.args.on_last (c.args.source.now, None) (g.W.Writer.state c.args.writer.now) some c.loop-first.levels c.loop-first.left c.loop-first.taken c.loop-first.waiting.items c.loop-first.children.items c.loop-first.starts.items front c.in-Some.first c.loop-first.child (c.loop-first.source, last_taken c.loop-first.waiting.items c.loop-first.leaf.items) (g.W.Writer.state c.loop-first.writer) c.in_err-root.field-0.0 (g.W.Writer.state c.write_above.new.writer) inv.stands eq all c.in_err-root.ensures.err))

pub overflow_add-levels : goal.overflow_add-levels
overflow_add-levels g c =
    let some = (room_of g.K.Portable.kind g.V.Portable.kind g.row.E g.met.K.Portable.laws g.met.V.Portable.laws c.requires.fitting).some in
    let front = c.in-Some.ensures.some.0 in
    let eq = c.in-Some.ensures.some.1 in
    let inv = c.loop-first.invariant in
    let sz = sizes (layout_of g.K.Portable.kind g.V.Portable.kind g.row.E) g.KU.Archive.archival g.VU.Archive.archival (both_borrowed g.BKU.Borrow.borrowed g.BVU.Borrow.borrowed) (Gives g.I.Iterator.next_gives g.L.Look.passes g.L.Look.stops) c.args.above c.args.on_last (c.args.source.now, None) (g.W.Writer.state c.args.writer.now) some c.loop-first.levels c.loop-first.left c.loop-first.taken c.loop-first.waiting.items c.loop-first.children.items c.loop-first.starts.items front c.in-Some.first c.loop-first.child (c.loop-first.source, last_taken c.loop-first.waiting.items c.loop-first.leaf.items) (g.W.Writer.state c.loop-first.writer) inv.stands eq in
    record { fits = level_fits c.loop-first.levels c.args.above sz.below c.ranges.above.fits }

pub loop-first-smaller-then-len-first : goal.loop-first-smaller-then-len-first
loop-first-smaller-then-len-first g c =
    let front = c.in-Some.ensures.some.0 in
    let eq = c.in-Some.ensures.some.1 in
    let inv = c.loop-first.invariant in
    let fewer = fewer_open c.loop-first.starts.items c.truncate.new.self.items front c.in-Some.first (c.len-then-len-first.result - 1) eq (ap (λ k. k - 1) (c.len-then-len-first.ensures ∙ c.loop-first.starts.ok.0)) c.truncate.ensures.items in
    closing_less c.args.claim c.loop-first.taken c.args.above (length c.loop-first.starts.items) (length c.truncate.new.self.items) fewer.1

pub loop-first-preserved-then-len-first : goal.loop-first-preserved-then-len-first
loop-first-preserved-then-len-first g c =
    let some = (room_of g.K.Portable.kind g.V.Portable.kind g.row.E g.met.K.Portable.laws g.met.V.Portable.laws c.requires.fitting).some in
    let front = c.in-Some.ensures.some.0 in
    let eq = c.in-Some.ensures.some.1 in
    let inv = c.loop-first.invariant in
    let all : length c.loop-first.waiting.items - c.in-Some.first ≡ g.row.E = omega (arith, c.if-len-first.true, c.len-in-Some.ensures, c.loop-first.waiting.ok.0) in
    let fewer = fewer_open c.loop-first.starts.items c.truncate.new.self.items front c.in-Some.first (c.len-then-len-first.result - 1) eq (ap (λ k. k - 1) (c.len-then-len-first.ensures ∙ c.loop-first.starts.ok.0)) c.truncate.ensures.items in
    record {
      stands = subst (λ (k : Option g.row.BKU.Denot). Stands (layout_of g.K.Portable.kind g.V.Portable.kind g.row.E) g.KU.Archive.archival g.VU.Archive.archival (both_borrowed g.BKU.Borrow.borrowed g.BVU.Borrow.borrowed) (Gives g.I.Iterator.next_gives g.L.Look.passes g.L.Look.stops) c.args.above c.args.on_last (c.args.source.now, None) (g.W.Writer.state c.args.writer.now) (c.loop-first.levels + 1) c.loop-first.left c.loop-first.taken c.keep_last.new.waiting.items c.write_above.new.children.items c.truncate.new.self.items (Some c.in_ok-root.root) (c.loop-first.source, k) (g.W.Writer.state c.write_above.new.writer)) (sym c.keep_last.ensures.last)
          (stands_closed (layout_of g.K.Portable.kind g.V.Portable.kind g.row.E) g.KU.Archive.archival g.VU.Archive.archival (both_borrowed g.BKU.Borrow.borrowed g.BVU.Borrow.borrowed) (Gives g.I.Iterator.next_gives g.L.Look.passes g.L.Look.stops) c.args.above c.args.on_last (c.args.source.now, None) (g.W.Writer.state c.args.writer.now) some c.loop-first.levels c.loop-first.left c.loop-first.taken c.loop-first.waiting.items c.loop-first.children.items c.loop-first.starts.items front c.in-Some.first c.loop-first.child (c.loop-first.source, last_taken c.loop-first.waiting.items c.loop-first.leaf.items) (g.W.Writer.state c.loop-first.writer) c.in_ok-root.root (g.W.Writer.state c.write_above.new.writer) c.keep_last.new.waiting.items c.write_above.new.children.items c.truncate.new.self.items (c.loop-first.levels + 1) inv.stands eq all c.in_ok-root.ensures.ok c.keep_last.ensures.waiting c.in_ok-root.ensures.kept fewer.0 refl);
      free = c.in_ok-root.ensures.free;
      waiting_room = omega (arith, inv.waiting_room, c.keep_last.ensures.room);
      child_room = omega (arith, inv.child_room, c.in_ok-root.ensures.room);
      start_room = omega (arith, inv.start_room, c.truncate.ensures.capacity);
      leaf_room = omega (arith, inv.leaf_room, c.keep_last.ensures.leaf_room);
      can = inv.can;
      ends = inv.ends;
      sized = inv.sized;
      last = c.in_ok-root.ensures.last;
    }

pub next-requires : goal.next-requires
next-requires g c = c.loop-first.invariant.can

pub returns-in_default-next-clause-err : goal.returns-in_default-next-clause-err
returns-in_default-next-clause-err g c =
    let some = (room_of g.K.Portable.kind g.V.Portable.kind g.row.E g.met.K.Portable.laws g.met.V.Portable.laws c.requires.fitting).some in
    let front = c.in-Some.ensures.some.0 in
    let eq = c.in-Some.ensures.some.1 in
    let inv = c.loop-first.invariant in
    let sz = sizes (layout_of g.K.Portable.kind g.V.Portable.kind g.row.E) g.KU.Archive.archival g.VU.Archive.archival (both_borrowed g.BKU.Borrow.borrowed g.BVU.Borrow.borrowed) (Gives g.I.Iterator.next_gives g.L.Look.passes g.L.Look.stops) c.args.above c.args.on_last (c.args.source.now, None) (g.W.Writer.state c.args.writer.now) some c.loop-first.levels c.loop-first.left c.loop-first.taken c.loop-first.waiting.items c.loop-first.children.items c.loop-first.starts.items front c.in-Some.first c.loop-first.child (c.loop-first.source, last_taken c.loop-first.waiting.items c.loop-first.leaf.items) (g.W.Writer.state c.loop-first.writer) inv.stands eq in
    let less : length c.loop-first.waiting.items < c.in-Some.first + g.row.E = omega (arith, c.if-len-first.false, c.len-in-Some.ensures, c.loop-first.waiting.ok.0, sz.waiting_few, sz.first_low) in
    inr (_, c.loop-first.taken, refl, refl, omega arith, entry_short (layout_of g.K.Portable.kind g.V.Portable.kind g.row.E) g.KU.Archive.archival g.VU.Archive.archival (both_borrowed g.BKU.Borrow.borrowed g.BVU.Borrow.borrowed) (Gives g.I.Iterator.next_gives g.L.Look.passes g.L.Look.stops) c.args.above c.args.on_last (c.args.source.now, None) (g.W.Writer.state c.args.writer.now) some c.loop-first.levels c.loop-first.left c.loop-first.taken c.loop-first.waiting.items c.loop-first.children.items c.loop-first.starts.items front c.in-Some.first c.loop-first.child (c.loop-first.source, last_taken c.loop-first.waiting.items c.loop-first.leaf.items) (c.next.new.self, None) (g.W.Writer.state c.loop-first.writer) inv.stands eq less (none_given g.I.Iterator.next_gives g.L.Look.passes g.L.Look.stops c.loop-first.source c.next.new.self (option_copied c.key_taken.result) (last_taken c.loop-first.waiting.items c.loop-first.leaf.items) (c.key_taken.ensures ∙ same_lists c.deref-else-len-first.result.now c.loop-first.waiting.items c.deref-else-len-first-2.result.now c.loop-first.leaf.items c.deref-else-len-first.ensures.value c.deref-else-len-first-2.ensures.value) c.in_default-next.ensures.steps))

pub overflow_add-taken : goal.overflow_add-taken
overflow_add-taken g c =
    let some = (room_of g.K.Portable.kind g.V.Portable.kind g.row.E g.met.K.Portable.laws g.met.V.Portable.laws c.requires.fitting).some in
    let front = c.in-Some.ensures.some.0 in
    let eq = c.in-Some.ensures.some.1 in
    let inv = c.loop-first.invariant in
    let sz = sizes (layout_of g.K.Portable.kind g.V.Portable.kind g.row.E) g.KU.Archive.archival g.VU.Archive.archival (both_borrowed g.BKU.Borrow.borrowed g.BVU.Borrow.borrowed) (Gives g.I.Iterator.next_gives g.L.Look.passes g.L.Look.stops) c.args.above c.args.on_last (c.args.source.now, None) (g.W.Writer.state c.args.writer.now) some c.loop-first.levels c.loop-first.left c.loop-first.taken c.loop-first.waiting.items c.loop-first.children.items c.loop-first.starts.items front c.in-Some.first c.loop-first.child (c.loop-first.source, last_taken c.loop-first.waiting.items c.loop-first.leaf.items) (g.W.Writer.state c.loop-first.writer) inv.stands eq in
    let less : length c.loop-first.waiting.items < c.in-Some.first + g.row.E = omega (arith, c.if-len-first.false, c.len-in-Some.ensures, c.loop-first.waiting.ok.0, sz.waiting_few, sz.first_low) in
    let claimed = all_claimed g.row.E c.args.above c.args.on_last c.args.claim c.requires.claim c.requires.most in
    record { fits = taken_fits c.loop-first.taken c.args.claim (omega (arith, sz.more_comes less, claimed)) c.requires.small }

pub wait-requires-clause-waiting_room : goal.wait-requires-clause-waiting_room
wait-requires-clause-waiting_room g c =
    let some = (room_of g.K.Portable.kind g.V.Portable.kind g.row.E g.met.K.Portable.laws g.met.V.Portable.laws c.requires.fitting).some in
    let front = c.in-Some.ensures.some.0 in
    let eq = c.in-Some.ensures.some.1 in
    let inv = c.loop-first.invariant in
    let sz = sizes (layout_of g.K.Portable.kind g.V.Portable.kind g.row.E) g.KU.Archive.archival g.VU.Archive.archival (both_borrowed g.BKU.Borrow.borrowed g.BVU.Borrow.borrowed) (Gives g.I.Iterator.next_gives g.L.Look.passes g.L.Look.stops) c.args.above c.args.on_last (c.args.source.now, None) (g.W.Writer.state c.args.writer.now) some c.loop-first.levels c.loop-first.left c.loop-first.taken c.loop-first.waiting.items c.loop-first.children.items c.loop-first.starts.items front c.in-Some.first c.loop-first.child (c.loop-first.source, last_taken c.loop-first.waiting.items c.loop-first.leaf.items) (g.W.Writer.state c.loop-first.writer) inv.stands eq in
    let less : length c.loop-first.waiting.items < c.in-Some.first + g.row.E = omega (arith, c.if-len-first.false, c.len-in-Some.ensures, c.loop-first.waiting.ok.0, sz.waiting_few, sz.first_low) in
    omega (arith, sz.more_waits less, inv.waiting_room, c.loop-first.waiting.ok.0)

pub wait-requires-clause-child_room : goal.wait-requires-clause-child_room
wait-requires-clause-child_room g c =
    let some = (room_of g.K.Portable.kind g.V.Portable.kind g.row.E g.met.K.Portable.laws g.met.V.Portable.laws c.requires.fitting).some in
    let front = c.in-Some.ensures.some.0 in
    let eq = c.in-Some.ensures.some.1 in
    let inv = c.loop-first.invariant in
    let sz = sizes (layout_of g.K.Portable.kind g.V.Portable.kind g.row.E) g.KU.Archive.archival g.VU.Archive.archival (both_borrowed g.BKU.Borrow.borrowed g.BVU.Borrow.borrowed) (Gives g.I.Iterator.next_gives g.L.Look.passes g.L.Look.stops) c.args.above c.args.on_last (c.args.source.now, None) (g.W.Writer.state c.args.writer.now) some c.loop-first.levels c.loop-first.left c.loop-first.taken c.loop-first.waiting.items c.loop-first.children.items c.loop-first.starts.items front c.in-Some.first c.loop-first.child (c.loop-first.source, last_taken c.loop-first.waiting.items c.loop-first.leaf.items) (g.W.Writer.state c.loop-first.writer) inv.stands eq in
    let less : length c.loop-first.waiting.items < c.in-Some.first + g.row.E = omega (arith, c.if-len-first.false, c.len-in-Some.ensures, c.loop-first.waiting.ok.0, sz.waiting_few, sz.first_low) in
    omega (arith, sz.more_waits less, sz.children_count, inv.child_room, c.loop-first.children.ok.0)

pub open_nodes-levels-requires-else-len-first : goal.open_nodes-levels-requires-else-len-first
open_nodes-levels-requires-else-len-first g c =
    let some = (room_of g.K.Portable.kind g.V.Portable.kind g.row.E g.met.K.Portable.laws g.met.V.Portable.laws c.requires.fitting).some in
    let front = c.in-Some.ensures.some.0 in
    let eq = c.in-Some.ensures.some.1 in
    let inv = c.loop-first.invariant in
    let sz = sizes (layout_of g.K.Portable.kind g.V.Portable.kind g.row.E) g.KU.Archive.archival g.VU.Archive.archival (both_borrowed g.BKU.Borrow.borrowed g.BVU.Borrow.borrowed) (Gives g.I.Iterator.next_gives g.L.Look.passes g.L.Look.stops) c.args.above c.args.on_last (c.args.source.now, None) (g.W.Writer.state c.args.writer.now) some c.loop-first.levels c.loop-first.left c.loop-first.taken c.loop-first.waiting.items c.loop-first.children.items c.loop-first.starts.items front c.in-Some.first c.loop-first.child (c.loop-first.source, last_taken c.loop-first.waiting.items c.loop-first.leaf.items) (g.W.Writer.state c.loop-first.writer) inv.stands eq in
    record { room = omega (arith, sz.starts_count, inv.start_room) }

pub returns-clause-ok : goal.returns-clause-ok
returns-clause-ok g c =
    let some = (room_of g.K.Portable.kind g.V.Portable.kind g.row.E g.met.K.Portable.laws g.met.V.Portable.laws c.requires.fitting).some in
    let waits = stands_none (layout_of g.K.Portable.kind g.V.Portable.kind g.row.E) g.KU.Archive.archival g.VU.Archive.archival (both_borrowed g.BKU.Borrow.borrowed g.BVU.Borrow.borrowed) (Gives g.I.Iterator.next_gives g.L.Look.passes g.L.Look.stops) c.args.above c.args.on_last (c.args.source.now, None) (g.W.Writer.state c.args.writer.now) c.loop-first.levels c.loop-first.left c.loop-first.taken c.loop-first.waiting.items c.loop-first.children.items c.loop-first.starts.items c.loop-first.child (c.loop-first.source, last_taken c.loop-first.waiting.items c.loop-first.leaf.items) (g.W.Writer.state c.loop-first.writer) c.loop-first.invariant.stands c.in_default.ensures.none in
    let last = popped c.loop-first.waiting.items c.loop-first.leaf.items c.pop.new.self.items c.pop.result (vec_len c.loop-first.leaf) waits c.pop.ensures.items c.pop.ensures.variant.1 c.loop-first.leaf.ok.0 in
    subst (λ (k : Option g.row.BKU.Denot). NextWritten (layout_of g.K.Portable.kind g.V.Portable.kind g.row.E) g.KU.Archive.archival g.VU.Archive.archival (both_borrowed g.BKU.Borrow.borrowed g.BVU.Borrow.borrowed) (Gives g.I.Iterator.next_gives g.L.Look.passes g.L.Look.stops) c.args.above c.args.on_last (c.args.source.now, None) (g.W.Writer.state c.args.writer.now) c.loop-first.child (c.loop-first.source, k) (g.W.Writer.state c.loop-first.writer)) last
    (stands_whole (layout_of g.K.Portable.kind g.V.Portable.kind g.row.E) g.KU.Archive.archival g.VU.Archive.archival (both_borrowed g.BKU.Borrow.borrowed g.BVU.Borrow.borrowed) (Gives g.I.Iterator.next_gives g.L.Look.passes g.L.Look.stops) c.args.above c.args.on_last (c.args.source.now, None) (g.W.Writer.state c.args.writer.now) some c.loop-first.levels c.loop-first.left c.loop-first.taken c.loop-first.waiting.items c.loop-first.children.items c.loop-first.starts.items c.loop-first.child (c.loop-first.source, last_taken c.loop-first.waiting.items c.loop-first.leaf.items) (g.W.Writer.state c.loop-first.writer) c.loop-first.invariant.stands c.in_default.ensures.none)

pub returns-clause-last : goal.returns-clause-last
returns-clause-last g c =
    c.loop-first.invariant.last

pub returns-clause-can : goal.returns-clause-can
returns-clause-can g c =
    c.loop-first.invariant.can

pub returns-clause-ends : goal.returns-clause-ends
returns-clause-ends g c =
    c.loop-first.invariant.ends

pub write_above-requires-clause-waiting : goal.write_above-requires-clause-waiting
write_above-requires-clause-waiting g c =
    let some = (room_of g.K.Portable.kind g.V.Portable.kind g.row.E g.met.K.Portable.laws g.met.V.Portable.laws c.requires.fitting).some in
    let front = c.in-Some.ensures.some.0 in
    let eq = c.in-Some.ensures.some.1 in
    let inv = c.loop-first.invariant in
    let sz = sizes (layout_of g.K.Portable.kind g.V.Portable.kind g.row.E) g.KU.Archive.archival g.VU.Archive.archival (both_borrowed g.BKU.Borrow.borrowed g.BVU.Borrow.borrowed) (Gives g.I.Iterator.next_gives g.L.Look.passes g.L.Look.stops) c.args.above c.args.on_last (c.args.source.now, None) (g.W.Writer.state c.args.writer.now) some c.loop-first.levels c.loop-first.left c.loop-first.taken c.loop-first.waiting.items c.loop-first.children.items c.loop-first.starts.items front c.in-Some.first c.loop-first.child (c.loop-first.source, last_taken c.loop-first.waiting.items c.loop-first.leaf.items) (g.W.Writer.state c.loop-first.writer) inv.stands eq in
    let z : length c.loop-first.waiting.items ≡ c.in-Some.first + g.row.E = omega (arith, sz.first_low, c.if-len-first.true, c.len-in-Some.ensures, c.loop-first.waiting.ok.0) in
    z

pub returns-then-not-take_items-clause-err : goal.returns-then-not-take_items-clause-err
returns-then-not-take_items-clause-err g c =
    let some = (room_of g.K.Portable.kind g.V.Portable.kind g.row.E g.met.K.Portable.laws g.met.V.Portable.laws c.requires.fitting).some in
    let short = next_leaf_short (layout_of g.K.Portable.kind g.V.Portable.kind g.row.E) g.KU.Archive.archival g.VU.Archive.archival (both_borrowed g.BKU.Borrow.borrowed g.BVU.Borrow.borrowed) (Gives g.I.Iterator.next_gives g.L.Look.passes g.L.Look.stops) c.open_nodes-levels.result c.args.on_last c.leaf_len-first_len.result (c.args.source.now, None) (g.W.Writer.state c.args.writer.now) c.take_items.new.items.items (c.take_items.new.source, None) c.leaf_len-first_len.ensures.leaf (leaf_short g.I.Iterator.next_gives g.L.Look.passes g.L.Look.stops c.args.source.now c.take_items.new.source (option_copied c.last_key.result) None c.take_items.new.items.items (c.last_key.ensures ∙ (ap (λ (xs : List (g.row.BKU.Denot × g.row.BVU.Denot)). key_before None xs) c.deref.ensures.value ∙ ap (λ (xs : List (g.row.BKU.Denot × g.row.BVU.Denot)). key_before None xs) c.requires.waiting.empty)) (c.take_items.ensures.few c.if-not-take_items.true)) (c.take_items.ensures.short c.if-not-take_items.true) in
    first_fault (layout_of g.K.Portable.kind g.V.Portable.kind g.row.E) g.KU.Archive.archival g.VU.Archive.archival (both_borrowed g.BKU.Borrow.borrowed g.BVU.Borrow.borrowed) (Gives g.I.Iterator.next_gives g.L.Look.passes g.L.Look.stops) c.args.above c.args.on_last (c.args.source.now, None) (g.W.Writer.state c.args.writer.now) some {X = g.row.W-Error.Denot} c.args.claim c.open_nodes-levels.result _ (c.take_items.new.source, None) (g.W.Writer.state c.args.writer.now) c.open_nodes-levels.ensures.below c.open_nodes-levels.ensures.inner (inr (_, length c.take_items.new.items.items, refl, refl, omega arith, short))

pub returns-in_err-place-clause-err : goal.returns-in_err-place-clause-err
returns-in_err-place-clause-err g c =
    let some = (room_of g.K.Portable.kind g.V.Portable.kind g.row.E g.met.K.Portable.laws g.met.V.Portable.laws c.requires.fitting).some in
    let many : 0 < c.leaf_len-first_len.result = some_count c.leaf_len-first_len.result (some_leaf g.row.E c.open_nodes-levels.result c.args.on_last c.leaf_len-first_len.result some c.requires.some c.leaf_len-first_len.ensures.leaf) in
    let nodes = layout_of g.K.Portable.kind g.V.Portable.kind g.row.E in
    let own = (both_borrowed g.BKU.Borrow.borrowed g.BVU.Borrow.borrowed) in
    let p = err_from_is_err_and c.from_residual.result c.from_residual.ensures.1 in
    let took = c.if-not-take_items.false in
    let stopped = subst (λ xs. NodeStopped nodes g.KU.Archive.archival g.VU.Archive.archival {E = g.row.W-Error.Denot} (leaf_image nodes) (leaf_size nodes) (g.W.Writer.state c.args.writer.now) (map own xs) c.in_err-place.field-0.0 (g.W.Writer.state c.write_leaf.new.writer)) c.deref-2.ensures.value c.in_err-place.ensures.err in
    let next = next_leaf_stopped (layout_of g.K.Portable.kind g.V.Portable.kind g.row.E) g.KU.Archive.archival g.VU.Archive.archival (both_borrowed g.BKU.Borrow.borrowed g.BVU.Borrow.borrowed) (Gives g.I.Iterator.next_gives g.L.Look.passes g.L.Look.stops) c.open_nodes-levels.result c.args.on_last c.leaf_len-first_len.result (c.args.source.now, None) (g.W.Writer.state c.args.writer.now) c.take_items.new.items.items (c.take_items.new.source, last_taken c.args.lists.waiting.items c.take_items.new.items.items) c.in_err-place.field-0.0 (g.W.Writer.state c.write_leaf.new.writer) c.leaf_len-first_len.ensures.leaf many c.leaf_len-first_len.ensures.few (leaf_given g.I.Iterator.next_gives g.L.Look.passes g.L.Look.stops c.args.source.now c.take_items.new.source (option_copied c.last_key.result) None c.take_items.new.items.items c.args.lists.waiting.items (c.last_key.ensures ∙ (ap (λ (xs : List (g.row.BKU.Denot × g.row.BVU.Denot)). key_before None xs) c.deref.ensures.value ∙ ap (λ (xs : List (g.row.BKU.Denot × g.row.BVU.Denot)). key_before None xs) c.requires.waiting.empty)) (sym (ap (λ (xs : List (g.row.BKU.Denot × g.row.BVU.Denot)). key_before None xs) c.requires.waiting.empty)) (c.take_items.ensures.all took)) (c.take_items.ensures.len took) stopped in
    rw (p.1, p.2) (first_fault (layout_of g.K.Portable.kind g.V.Portable.kind g.row.E) g.KU.Archive.archival g.VU.Archive.archival (both_borrowed g.BKU.Borrow.borrowed g.BVU.Borrow.borrowed) (Gives g.I.Iterator.next_gives g.L.Look.passes g.L.Look.stops) c.args.above c.args.on_last (c.args.source.now, None) (g.W.Writer.state c.args.writer.now) some c.args.claim c.open_nodes-levels.result c.in_err-place.field-0.0 (c.take_items.new.source, None) (g.W.Writer.state c.write_leaf.new.writer) c.open_nodes-levels.ensures.below c.open_nodes-levels.ensures.inner (inl next))

pub loop-first-init : goal.loop-first-init
loop-first-init g c =
    let some = (room_of g.K.Portable.kind g.V.Portable.kind g.row.E g.met.K.Portable.laws g.met.V.Portable.laws c.requires.fitting).some in
    let many : 0 < c.leaf_len-first_len.result = some_count c.leaf_len-first_len.result (some_leaf g.row.E c.open_nodes-levels.result c.args.on_last c.leaf_len-first_len.result some c.requires.some c.leaf_len-first_len.ensures.leaf) in
    let nodes = layout_of g.K.Portable.kind g.V.Portable.kind g.row.E in
    let own = (both_borrowed g.BKU.Borrow.borrowed g.BVU.Borrow.borrowed) in
    let took = c.if-not-take_items.false in
    let written = subst (λ xs. NodeWritten nodes g.KU.Archive.archival g.VU.Archive.archival (leaf_image nodes) (leaf_size nodes) (g.W.Writer.state c.args.writer.now) (map own xs) c.in_ok-place.place (g.W.Writer.state c.write_leaf.new.writer)) c.deref-2.ensures.value c.in_ok-place.ensures.ok in
    let next = next_leaf (layout_of g.K.Portable.kind g.V.Portable.kind g.row.E) g.KU.Archive.archival g.VU.Archive.archival (both_borrowed g.BKU.Borrow.borrowed g.BVU.Borrow.borrowed) (Gives g.I.Iterator.next_gives g.L.Look.passes g.L.Look.stops) c.open_nodes-levels.result c.args.on_last c.leaf_len-first_len.result (c.args.source.now, None) (g.W.Writer.state c.args.writer.now) c.take_items.new.items.items (c.take_items.new.source, last_taken c.args.lists.waiting.items c.take_items.new.items.items) c.in_ok-place.place (g.W.Writer.state c.write_leaf.new.writer) c.leaf_len-first_len.ensures.leaf many c.leaf_len-first_len.ensures.few (leaf_given g.I.Iterator.next_gives g.L.Look.passes g.L.Look.stops c.args.source.now c.take_items.new.source (option_copied c.last_key.result) None c.take_items.new.items.items c.args.lists.waiting.items (c.last_key.ensures ∙ (ap (λ (xs : List (g.row.BKU.Denot × g.row.BVU.Denot)). key_before None xs) c.deref.ensures.value ∙ ap (λ (xs : List (g.row.BKU.Denot × g.row.BVU.Denot)). key_before None xs) c.requires.waiting.empty)) (sym (ap (λ (xs : List (g.row.BKU.Denot × g.row.BVU.Denot)). key_before None xs) c.requires.waiting.empty)) (c.take_items.ensures.all took)) (c.take_items.ensures.len took) written in
    record {
      stands = stands_first (layout_of g.K.Portable.kind g.V.Portable.kind g.row.E) g.KU.Archive.archival g.VU.Archive.archival (both_borrowed g.BKU.Borrow.borrowed g.BVU.Borrow.borrowed) (Gives g.I.Iterator.next_gives g.L.Look.passes g.L.Look.stops) c.args.above c.args.on_last (c.args.source.now, None) (g.W.Writer.state c.args.writer.now) some c.open_nodes-levels.result c.saturating_sub-left.result c.leaf_len-first_len.result c.leaf_len-first_len.result c.args.lists.waiting.items c.args.lists.children.items c.open_nodes-levels.new.starts.items c.args.lists.starts.items (Some c.in_ok-place.place) (c.take_items.new.source, last_taken c.args.lists.waiting.items c.take_items.new.items.items) (g.W.Writer.state c.write_leaf.new.writer) c.open_nodes-levels.ensures.below c.open_nodes-levels.ensures.inner c.requires.waiting.empty c.requires.children.empty c.requires.starts.empty c.open_nodes-levels.ensures.opened c.leaf_len-first_len.ensures.leaf next c.saturating_sub-left.ensures (omega arith);
      free = c.in_ok-place.ensures.free;
      waiting_room = c.requires.waiting.room;
      child_room = c.requires.children.room;
      start_room = omega (arith, c.requires.starts.room, c.open_nodes-levels.ensures.room);
      leaf_room = omega (arith, c.requires.leaf.room, c.take_items.ensures.capacity);
      can = c.take_items.ensures.can took;
      ends = c.take_items.ensures.ends took;
      sized = omega (arith, c.take_items.ensures.left took);
      last = c.in_ok-place.ensures.last;
    }

pub returns-then-not-take_items-2-clause-err : goal.returns-then-not-take_items-2-clause-err
returns-then-not-take_items-2-clause-err g c =
    let some = (room_of g.K.Portable.kind g.V.Portable.kind g.row.E g.met.K.Portable.laws g.met.V.Portable.laws c.requires.fitting).some in
    let front = c.in-Some.ensures.some.0 in
    let eq = c.in-Some.ensures.some.1 in
    let inv = c.loop-first.invariant in
    let sz = sizes (layout_of g.K.Portable.kind g.V.Portable.kind g.row.E) g.KU.Archive.archival g.VU.Archive.archival (both_borrowed g.BKU.Borrow.borrowed g.BVU.Borrow.borrowed) (Gives g.I.Iterator.next_gives g.L.Look.passes g.L.Look.stops) c.args.above c.args.on_last (c.args.source.now, None) (g.W.Writer.state c.args.writer.now) some c.loop-first.levels c.loop-first.left c.loop-first.taken c.loop-first.waiting.items c.loop-first.children.items c.loop-first.starts.items front c.in-Some.first c.loop-first.child (c.loop-first.source, last_taken c.loop-first.waiting.items c.loop-first.leaf.items) (g.W.Writer.state c.loop-first.writer) inv.stands eq in
    let less : length c.loop-first.waiting.items < c.in-Some.first + g.row.E = omega (arith, c.if-len-first.false, c.len-in-Some.ensures, c.loop-first.waiting.ok.0, sz.waiting_few, sz.first_low) in
    let goes = goes_on (layout_of g.K.Portable.kind g.V.Portable.kind g.row.E) g.KU.Archive.archival g.VU.Archive.archival (both_borrowed g.BKU.Borrow.borrowed g.BVU.Borrow.borrowed) (Gives g.I.Iterator.next_gives g.L.Look.passes g.L.Look.stops) c.args.above c.args.on_last (c.args.source.now, None) (g.W.Writer.state c.args.writer.now) some c.loop-first.levels c.loop-first.left c.loop-first.taken c.loop-first.waiting.items c.loop-first.children.items c.loop-first.starts.items front c.in-Some.first c.loop-first.child (c.loop-first.source, last_taken c.loop-first.waiting.items c.loop-first.leaf.items) (g.W.Writer.state c.loop-first.writer) c.in-Some-next.entry (c.next.new.self, key_before None c.wait.new.waiting.items) c.open_nodes-levels-else-len-first.result (c.loop-first.taken + 1) c.wait.new.waiting.items c.wait.new.children.items c.open_nodes-levels-else-len-first.new.starts.items inv.stands eq less (entry_given g.I.Iterator.next_gives g.L.Look.passes g.L.Look.stops c.loop-first.source c.next.new.self (option_copied c.key_taken.result) (last_taken c.loop-first.waiting.items c.loop-first.leaf.items) c.in-Some-next.entry c.loop-first.waiting.items c.wait.new.waiting.items (c.key_taken.ensures ∙ same_lists c.deref-else-len-first.result.now c.loop-first.waiting.items c.deref-else-len-first-2.result.now c.loop-first.leaf.items c.deref-else-len-first.ensures.value c.deref-else-len-first-2.ensures.value) c.wait.ensures.waiting c.in-Some-next.ensures.steps) c.wait.ensures.waiting c.wait.ensures.children refl c.open_nodes-levels-else-len-first.ensures.below c.open_nodes-levels-else-len-first.ensures.inner
    (c.open_nodes-levels-else-len-first.ensures.opened ∙ ap (λ k. c.loop-first.starts.items ++ replicate (c.loop-first.levels - c.open_nodes-levels-else-len-first.result) k) (c.len-else-len-first.ensures ∙ c.wait.new.waiting.ok.0)) in
    let short = next_leaf_short (layout_of g.K.Portable.kind g.V.Portable.kind g.row.E) g.KU.Archive.archival g.VU.Archive.archival (both_borrowed g.BKU.Borrow.borrowed g.BVU.Borrow.borrowed) (Gives g.I.Iterator.next_gives g.L.Look.passes g.L.Look.stops) c.open_nodes-levels-else-len-first.result c.loop-first.left c.leaf_len-len.result (c.next.new.self, key_before None c.wait.new.waiting.items) (g.W.Writer.state c.loop-first.writer) c.take_items-else-len-eq0.new.items.items (c.take_items-else-len-eq0.new.source, None) c.leaf_len-len.ensures.leaf (leaf_short g.I.Iterator.next_gives g.L.Look.passes g.L.Look.stops c.next.new.self c.take_items-else-len-eq0.new.source (option_copied c.last_key-else-len-eq0.result) (key_before None c.wait.new.waiting.items) c.take_items-else-len-eq0.new.items.items (c.last_key-else-len-eq0.ensures ∙ ap (λ (xs : List (g.row.BKU.Denot × g.row.BVU.Denot)). key_before None xs) c.deref-else-len-eq0.ensures.value) (c.take_items-else-len-eq0.ensures.few c.if-not-take_items-2.true)) (c.take_items-else-len-eq0.ensures.short c.if-not-take_items-2.true) in
    next_fault (layout_of g.K.Portable.kind g.V.Portable.kind g.row.E) g.KU.Archive.archival g.VU.Archive.archival (both_borrowed g.BKU.Borrow.borrowed g.BVU.Borrow.borrowed) (Gives g.I.Iterator.next_gives g.L.Look.passes g.L.Look.stops) c.args.above c.args.on_last (c.args.source.now, None) (g.W.Writer.state c.args.writer.now) some {X = g.row.W-Error.Denot} c.args.claim c.open_nodes-levels-else-len-first.result c.loop-first.left (c.loop-first.taken + 1) c.wait.new.waiting.items c.wait.new.children.items c.open_nodes-levels-else-len-first.new.starts.items (c.next.new.self, key_before None c.wait.new.waiting.items) (g.W.Writer.state c.loop-first.writer) _ (c.take_items-else-len-eq0.new.source, None) (g.W.Writer.state c.loop-first.writer) goes (inr (_, length c.take_items-else-len-eq0.new.items.items, refl, refl, omega arith, short))

pub returns-in_err-next_place-clause-err : goal.returns-in_err-next_place-clause-err
returns-in_err-next_place-clause-err g c =
    let some = (room_of g.K.Portable.kind g.V.Portable.kind g.row.E g.met.K.Portable.laws g.met.V.Portable.laws c.requires.fitting).some in
    let front = c.in-Some.ensures.some.0 in
    let eq = c.in-Some.ensures.some.1 in
    let inv = c.loop-first.invariant in
    let sz = sizes (layout_of g.K.Portable.kind g.V.Portable.kind g.row.E) g.KU.Archive.archival g.VU.Archive.archival (both_borrowed g.BKU.Borrow.borrowed g.BVU.Borrow.borrowed) (Gives g.I.Iterator.next_gives g.L.Look.passes g.L.Look.stops) c.args.above c.args.on_last (c.args.source.now, None) (g.W.Writer.state c.args.writer.now) some c.loop-first.levels c.loop-first.left c.loop-first.taken c.loop-first.waiting.items c.loop-first.children.items c.loop-first.starts.items front c.in-Some.first c.loop-first.child (c.loop-first.source, last_taken c.loop-first.waiting.items c.loop-first.leaf.items) (g.W.Writer.state c.loop-first.writer) inv.stands eq in
    let less : length c.loop-first.waiting.items < c.in-Some.first + g.row.E = omega (arith, c.if-len-first.false, c.len-in-Some.ensures, c.loop-first.waiting.ok.0, sz.waiting_few, sz.first_low) in
    let goes = goes_on (layout_of g.K.Portable.kind g.V.Portable.kind g.row.E) g.KU.Archive.archival g.VU.Archive.archival (both_borrowed g.BKU.Borrow.borrowed g.BVU.Borrow.borrowed) (Gives g.I.Iterator.next_gives g.L.Look.passes g.L.Look.stops) c.args.above c.args.on_last (c.args.source.now, None) (g.W.Writer.state c.args.writer.now) some c.loop-first.levels c.loop-first.left c.loop-first.taken c.loop-first.waiting.items c.loop-first.children.items c.loop-first.starts.items front c.in-Some.first c.loop-first.child (c.loop-first.source, last_taken c.loop-first.waiting.items c.loop-first.leaf.items) (g.W.Writer.state c.loop-first.writer) c.in-Some-next.entry (c.next.new.self, key_before None c.wait.new.waiting.items) c.open_nodes-levels-else-len-first.result (c.loop-first.taken + 1) c.wait.new.waiting.items c.wait.new.children.items c.open_nodes-levels-else-len-first.new.starts.items inv.stands eq less (entry_given g.I.Iterator.next_gives g.L.Look.passes g.L.Look.stops c.loop-first.source c.next.new.self (option_copied c.key_taken.result) (last_taken c.loop-first.waiting.items c.loop-first.leaf.items) c.in-Some-next.entry c.loop-first.waiting.items c.wait.new.waiting.items (c.key_taken.ensures ∙ same_lists c.deref-else-len-first.result.now c.loop-first.waiting.items c.deref-else-len-first-2.result.now c.loop-first.leaf.items c.deref-else-len-first.ensures.value c.deref-else-len-first-2.ensures.value) c.wait.ensures.waiting c.in-Some-next.ensures.steps) c.wait.ensures.waiting c.wait.ensures.children refl c.open_nodes-levels-else-len-first.ensures.below c.open_nodes-levels-else-len-first.ensures.inner
    (c.open_nodes-levels-else-len-first.ensures.opened ∙ ap (λ k. c.loop-first.starts.items ++ replicate (c.loop-first.levels - c.open_nodes-levels-else-len-first.result) k) (c.len-else-len-first.ensures ∙ c.wait.new.waiting.ok.0)) in
    let nodes = layout_of g.K.Portable.kind g.V.Portable.kind g.row.E in
    let own = (both_borrowed g.BKU.Borrow.borrowed g.BVU.Borrow.borrowed) in
    let p = err_from_is_err_and c.from_residual-in_err-next_place.result c.from_residual-in_err-next_place.ensures.1 in
    let took = c.if-not-take_items-2.false in
    let stopped = subst (λ xs. NodeStopped nodes g.KU.Archive.archival g.VU.Archive.archival {E = g.row.W-Error.Denot} (leaf_image nodes) (leaf_size nodes) (g.W.Writer.state c.loop-first.writer) (map own xs) c.in_err-next_place.field-0.0 (g.W.Writer.state c.write_leaf-else-len-eq0.new.writer)) c.deref-else-len-eq0-2.ensures.value c.in_err-next_place.ensures.err in
    let next = next_leaf_stopped (layout_of g.K.Portable.kind g.V.Portable.kind g.row.E) g.KU.Archive.archival g.VU.Archive.archival (both_borrowed g.BKU.Borrow.borrowed g.BVU.Borrow.borrowed) (Gives g.I.Iterator.next_gives g.L.Look.passes g.L.Look.stops) c.open_nodes-levels-else-len-first.result c.loop-first.left c.leaf_len-len.result (c.next.new.self, key_before None c.wait.new.waiting.items) (g.W.Writer.state c.loop-first.writer) c.take_items-else-len-eq0.new.items.items (c.take_items-else-len-eq0.new.source, last_taken c.wait.new.waiting.items c.take_items-else-len-eq0.new.items.items) c.in_err-next_place.field-0.0 (g.W.Writer.state c.write_leaf-else-len-eq0.new.writer) c.leaf_len-len.ensures.leaf (omega (arith, c.if-len-eq0.false)) c.leaf_len-len.ensures.few (leaf_given g.I.Iterator.next_gives g.L.Look.passes g.L.Look.stops c.next.new.self c.take_items-else-len-eq0.new.source (option_copied c.last_key-else-len-eq0.result) (key_before None c.wait.new.waiting.items) c.take_items-else-len-eq0.new.items.items c.wait.new.waiting.items (c.last_key-else-len-eq0.ensures ∙ ap (λ (xs : List (g.row.BKU.Denot × g.row.BVU.Denot)). key_before None xs) c.deref-else-len-eq0.ensures.value) refl (c.take_items-else-len-eq0.ensures.all took)) (c.take_items-else-len-eq0.ensures.len took) stopped in
    rw (p.1, p.2) (next_fault (layout_of g.K.Portable.kind g.V.Portable.kind g.row.E) g.KU.Archive.archival g.VU.Archive.archival (both_borrowed g.BKU.Borrow.borrowed g.BVU.Borrow.borrowed) (Gives g.I.Iterator.next_gives g.L.Look.passes g.L.Look.stops) c.args.above c.args.on_last (c.args.source.now, None) (g.W.Writer.state c.args.writer.now) some c.args.claim c.open_nodes-levels-else-len-first.result c.loop-first.left (c.loop-first.taken + 1) c.wait.new.waiting.items c.wait.new.children.items c.open_nodes-levels-else-len-first.new.starts.items (c.next.new.self, key_before None c.wait.new.waiting.items) (g.W.Writer.state c.loop-first.writer) c.in_err-next_place.field-0.0 (c.take_items-else-len-eq0.new.source, None) (g.W.Writer.state c.write_leaf-else-len-eq0.new.writer) goes (inl next))

pub loop-first-smaller : goal.loop-first-smaller
loop-first-smaller g c =
    let some = (room_of g.K.Portable.kind g.V.Portable.kind g.row.E g.met.K.Portable.laws g.met.V.Portable.laws c.requires.fitting).some in
    let front = c.in-Some.ensures.some.0 in
    let eq = c.in-Some.ensures.some.1 in
    let inv = c.loop-first.invariant in
    let sz = sizes (layout_of g.K.Portable.kind g.V.Portable.kind g.row.E) g.KU.Archive.archival g.VU.Archive.archival (both_borrowed g.BKU.Borrow.borrowed g.BVU.Borrow.borrowed) (Gives g.I.Iterator.next_gives g.L.Look.passes g.L.Look.stops) c.args.above c.args.on_last (c.args.source.now, None) (g.W.Writer.state c.args.writer.now) some c.loop-first.levels c.loop-first.left c.loop-first.taken c.loop-first.waiting.items c.loop-first.children.items c.loop-first.starts.items front c.in-Some.first c.loop-first.child (c.loop-first.source, last_taken c.loop-first.waiting.items c.loop-first.leaf.items) (g.W.Writer.state c.loop-first.writer) inv.stands eq in
    let less : length c.loop-first.waiting.items < c.in-Some.first + g.row.E = omega (arith, c.if-len-first.false, c.len-in-Some.ensures, c.loop-first.waiting.ok.0, sz.waiting_few, sz.first_low) in
    let claimed = all_claimed g.row.E c.args.above c.args.on_last c.args.claim c.requires.claim c.requires.most in
    let goes = goes_on (layout_of g.K.Portable.kind g.V.Portable.kind g.row.E) g.KU.Archive.archival g.VU.Archive.archival (both_borrowed g.BKU.Borrow.borrowed g.BVU.Borrow.borrowed) (Gives g.I.Iterator.next_gives g.L.Look.passes g.L.Look.stops) c.args.above c.args.on_last (c.args.source.now, None) (g.W.Writer.state c.args.writer.now) some c.loop-first.levels c.loop-first.left c.loop-first.taken c.loop-first.waiting.items c.loop-first.children.items c.loop-first.starts.items front c.in-Some.first c.loop-first.child (c.loop-first.source, last_taken c.loop-first.waiting.items c.loop-first.leaf.items) (g.W.Writer.state c.loop-first.writer) c.in-Some-next.entry (c.next.new.self, key_before None c.wait.new.waiting.items) c.open_nodes-levels-else-len-first.result (c.loop-first.taken + 1) c.wait.new.waiting.items c.wait.new.children.items c.open_nodes-levels-else-len-first.new.starts.items inv.stands eq less (entry_given g.I.Iterator.next_gives g.L.Look.passes g.L.Look.stops c.loop-first.source c.next.new.self (option_copied c.key_taken.result) (last_taken c.loop-first.waiting.items c.loop-first.leaf.items) c.in-Some-next.entry c.loop-first.waiting.items c.wait.new.waiting.items (c.key_taken.ensures ∙ same_lists c.deref-else-len-first.result.now c.loop-first.waiting.items c.deref-else-len-first-2.result.now c.loop-first.leaf.items c.deref-else-len-first.ensures.value c.deref-else-len-first-2.ensures.value) c.wait.ensures.waiting c.in-Some-next.ensures.steps) c.wait.ensures.waiting c.wait.ensures.children refl c.open_nodes-levels-else-len-first.ensures.below c.open_nodes-levels-else-len-first.ensures.inner
    (c.open_nodes-levels-else-len-first.ensures.opened ∙ ap (λ k. c.loop-first.starts.items ++ replicate (c.loop-first.levels - c.open_nodes-levels-else-len-first.result) k) (c.len-else-len-first.ensures ∙ c.wait.new.waiting.ok.0)) in
    let room = goes_room (layout_of g.K.Portable.kind g.V.Portable.kind g.row.E) g.KU.Archive.archival g.VU.Archive.archival (both_borrowed g.BKU.Borrow.borrowed g.BVU.Borrow.borrowed) (Gives g.I.Iterator.next_gives g.L.Look.passes g.L.Look.stops) c.args.above c.args.on_last (c.args.source.now, None) (g.W.Writer.state c.args.writer.now) some c.open_nodes-levels-else-len-first.result c.loop-first.left (c.loop-first.taken + 1) c.leaf_len-len.result c.wait.new.waiting.items c.wait.new.children.items c.open_nodes-levels-else-len-first.new.starts.items (c.next.new.self, key_before None c.wait.new.waiting.items) (g.W.Writer.state c.loop-first.writer) goes c.leaf_len-len.ensures.leaf in
    let room2 = goes_counts (layout_of g.K.Portable.kind g.V.Portable.kind g.row.E) g.KU.Archive.archival g.VU.Archive.archival (both_borrowed g.BKU.Borrow.borrowed g.BVU.Borrow.borrowed) (Gives g.I.Iterator.next_gives g.L.Look.passes g.L.Look.stops) c.args.above c.args.on_last (c.args.source.now, None) (g.W.Writer.state c.args.writer.now) some c.open_nodes-levels-else-len-first.result c.loop-first.left (c.loop-first.taken + 1) c.wait.new.waiting.items c.wait.new.children.items c.open_nodes-levels-else-len-first.new.starts.items (c.next.new.self, key_before None c.wait.new.waiting.items) (g.W.Writer.state c.loop-first.writer) goes in
    turn_taken c.args.claim c.loop-first.taken c.leaf_len-len.result c.args.above (length c.loop-first.starts.items) (length c.open_nodes-levels-else-len-first.new.starts.items) (omega (arith, room, claimed)) (omega (arith, room2))

pub loop-first-smaller-then-len-eq0 : goal.loop-first-smaller-then-len-eq0
loop-first-smaller-then-len-eq0 g c =
    let some = (room_of g.K.Portable.kind g.V.Portable.kind g.row.E g.met.K.Portable.laws g.met.V.Portable.laws c.requires.fitting).some in
    let front = c.in-Some.ensures.some.0 in
    let eq = c.in-Some.ensures.some.1 in
    let inv = c.loop-first.invariant in
    let sz = sizes (layout_of g.K.Portable.kind g.V.Portable.kind g.row.E) g.KU.Archive.archival g.VU.Archive.archival (both_borrowed g.BKU.Borrow.borrowed g.BVU.Borrow.borrowed) (Gives g.I.Iterator.next_gives g.L.Look.passes g.L.Look.stops) c.args.above c.args.on_last (c.args.source.now, None) (g.W.Writer.state c.args.writer.now) some c.loop-first.levels c.loop-first.left c.loop-first.taken c.loop-first.waiting.items c.loop-first.children.items c.loop-first.starts.items front c.in-Some.first c.loop-first.child (c.loop-first.source, last_taken c.loop-first.waiting.items c.loop-first.leaf.items) (g.W.Writer.state c.loop-first.writer) inv.stands eq in
    let less : length c.loop-first.waiting.items < c.in-Some.first + g.row.E = omega (arith, c.if-len-first.false, c.len-in-Some.ensures, c.loop-first.waiting.ok.0, sz.waiting_few, sz.first_low) in
    let claimed = all_claimed g.row.E c.args.above c.args.on_last c.args.claim c.requires.claim c.requires.most in
    let goes = goes_on (layout_of g.K.Portable.kind g.V.Portable.kind g.row.E) g.KU.Archive.archival g.VU.Archive.archival (both_borrowed g.BKU.Borrow.borrowed g.BVU.Borrow.borrowed) (Gives g.I.Iterator.next_gives g.L.Look.passes g.L.Look.stops) c.args.above c.args.on_last (c.args.source.now, None) (g.W.Writer.state c.args.writer.now) some c.loop-first.levels c.loop-first.left c.loop-first.taken c.loop-first.waiting.items c.loop-first.children.items c.loop-first.starts.items front c.in-Some.first c.loop-first.child (c.loop-first.source, last_taken c.loop-first.waiting.items c.loop-first.leaf.items) (g.W.Writer.state c.loop-first.writer) c.in-Some-next.entry (c.next.new.self, key_before None c.wait.new.waiting.items) c.open_nodes-levels-else-len-first.result (c.loop-first.taken + 1) c.wait.new.waiting.items c.wait.new.children.items c.open_nodes-levels-else-len-first.new.starts.items inv.stands eq less (entry_given g.I.Iterator.next_gives g.L.Look.passes g.L.Look.stops c.loop-first.source c.next.new.self (option_copied c.key_taken.result) (last_taken c.loop-first.waiting.items c.loop-first.leaf.items) c.in-Some-next.entry c.loop-first.waiting.items c.wait.new.waiting.items (c.key_taken.ensures ∙ same_lists c.deref-else-len-first.result.now c.loop-first.waiting.items c.deref-else-len-first-2.result.now c.loop-first.leaf.items c.deref-else-len-first.ensures.value c.deref-else-len-first-2.ensures.value) c.wait.ensures.waiting c.in-Some-next.ensures.steps) c.wait.ensures.waiting c.wait.ensures.children refl c.open_nodes-levels-else-len-first.ensures.below c.open_nodes-levels-else-len-first.ensures.inner
    (c.open_nodes-levels-else-len-first.ensures.opened ∙ ap (λ k. c.loop-first.starts.items ++ replicate (c.loop-first.levels - c.open_nodes-levels-else-len-first.result) k) (c.len-else-len-first.ensures ∙ c.wait.new.waiting.ok.0)) in
    let room = goes_room (layout_of g.K.Portable.kind g.V.Portable.kind g.row.E) g.KU.Archive.archival g.VU.Archive.archival (both_borrowed g.BKU.Borrow.borrowed g.BVU.Borrow.borrowed) (Gives g.I.Iterator.next_gives g.L.Look.passes g.L.Look.stops) c.args.above c.args.on_last (c.args.source.now, None) (g.W.Writer.state c.args.writer.now) some c.open_nodes-levels-else-len-first.result c.loop-first.left (c.loop-first.taken + 1) c.leaf_len-len.result c.wait.new.waiting.items c.wait.new.children.items c.open_nodes-levels-else-len-first.new.starts.items (c.next.new.self, key_before None c.wait.new.waiting.items) (g.W.Writer.state c.loop-first.writer) goes c.leaf_len-len.ensures.leaf in
    let room2 = goes_counts (layout_of g.K.Portable.kind g.V.Portable.kind g.row.E) g.KU.Archive.archival g.VU.Archive.archival (both_borrowed g.BKU.Borrow.borrowed g.BVU.Borrow.borrowed) (Gives g.I.Iterator.next_gives g.L.Look.passes g.L.Look.stops) c.args.above c.args.on_last (c.args.source.now, None) (g.W.Writer.state c.args.writer.now) some c.open_nodes-levels-else-len-first.result c.loop-first.left (c.loop-first.taken + 1) c.wait.new.waiting.items c.wait.new.children.items c.open_nodes-levels-else-len-first.new.starts.items (c.next.new.self, key_before None c.wait.new.waiting.items) (g.W.Writer.state c.loop-first.writer) goes in
    turn_entry c.args.claim c.loop-first.taken c.args.above (length c.loop-first.starts.items) (length c.open_nodes-levels-else-len-first.new.starts.items) (omega (arith, room, claimed)) (omega (arith, room2))

pub loop-first-preserved : goal.loop-first-preserved
loop-first-preserved g c =
    let some = (room_of g.K.Portable.kind g.V.Portable.kind g.row.E g.met.K.Portable.laws g.met.V.Portable.laws c.requires.fitting).some in
    let front = c.in-Some.ensures.some.0 in
    let eq = c.in-Some.ensures.some.1 in
    let inv = c.loop-first.invariant in
    let sz = sizes (layout_of g.K.Portable.kind g.V.Portable.kind g.row.E) g.KU.Archive.archival g.VU.Archive.archival (both_borrowed g.BKU.Borrow.borrowed g.BVU.Borrow.borrowed) (Gives g.I.Iterator.next_gives g.L.Look.passes g.L.Look.stops) c.args.above c.args.on_last (c.args.source.now, None) (g.W.Writer.state c.args.writer.now) some c.loop-first.levels c.loop-first.left c.loop-first.taken c.loop-first.waiting.items c.loop-first.children.items c.loop-first.starts.items front c.in-Some.first c.loop-first.child (c.loop-first.source, last_taken c.loop-first.waiting.items c.loop-first.leaf.items) (g.W.Writer.state c.loop-first.writer) inv.stands eq in
    let less : length c.loop-first.waiting.items < c.in-Some.first + g.row.E = omega (arith, c.if-len-first.false, c.len-in-Some.ensures, c.loop-first.waiting.ok.0, sz.waiting_few, sz.first_low) in
    let goes = goes_on (layout_of g.K.Portable.kind g.V.Portable.kind g.row.E) g.KU.Archive.archival g.VU.Archive.archival (both_borrowed g.BKU.Borrow.borrowed g.BVU.Borrow.borrowed) (Gives g.I.Iterator.next_gives g.L.Look.passes g.L.Look.stops) c.args.above c.args.on_last (c.args.source.now, None) (g.W.Writer.state c.args.writer.now) some c.loop-first.levels c.loop-first.left c.loop-first.taken c.loop-first.waiting.items c.loop-first.children.items c.loop-first.starts.items front c.in-Some.first c.loop-first.child (c.loop-first.source, last_taken c.loop-first.waiting.items c.loop-first.leaf.items) (g.W.Writer.state c.loop-first.writer) c.in-Some-next.entry (c.next.new.self, key_before None c.wait.new.waiting.items) c.open_nodes-levels-else-len-first.result (c.loop-first.taken + 1) c.wait.new.waiting.items c.wait.new.children.items c.open_nodes-levels-else-len-first.new.starts.items inv.stands eq less (entry_given g.I.Iterator.next_gives g.L.Look.passes g.L.Look.stops c.loop-first.source c.next.new.self (option_copied c.key_taken.result) (last_taken c.loop-first.waiting.items c.loop-first.leaf.items) c.in-Some-next.entry c.loop-first.waiting.items c.wait.new.waiting.items (c.key_taken.ensures ∙ same_lists c.deref-else-len-first.result.now c.loop-first.waiting.items c.deref-else-len-first-2.result.now c.loop-first.leaf.items c.deref-else-len-first.ensures.value c.deref-else-len-first-2.ensures.value) c.wait.ensures.waiting c.in-Some-next.ensures.steps) c.wait.ensures.waiting c.wait.ensures.children refl c.open_nodes-levels-else-len-first.ensures.below c.open_nodes-levels-else-len-first.ensures.inner
    (c.open_nodes-levels-else-len-first.ensures.opened ∙ ap (λ k. c.loop-first.starts.items ++ replicate (c.loop-first.levels - c.open_nodes-levels-else-len-first.result) k) (c.len-else-len-first.ensures ∙ c.wait.new.waiting.ok.0)) in
    let nodes = layout_of g.K.Portable.kind g.V.Portable.kind g.row.E in
    let own = (both_borrowed g.BKU.Borrow.borrowed g.BVU.Borrow.borrowed) in
    let took = c.if-not-take_items-2.false in
    let written = subst (λ xs. NodeWritten nodes g.KU.Archive.archival g.VU.Archive.archival (leaf_image nodes) (leaf_size nodes) (g.W.Writer.state c.loop-first.writer) (map own xs) c.in_ok-next_place.next_place (g.W.Writer.state c.write_leaf-else-len-eq0.new.writer)) c.deref-else-len-eq0-2.ensures.value c.in_ok-next_place.ensures.ok in
    let next = next_leaf (layout_of g.K.Portable.kind g.V.Portable.kind g.row.E) g.KU.Archive.archival g.VU.Archive.archival (both_borrowed g.BKU.Borrow.borrowed g.BVU.Borrow.borrowed) (Gives g.I.Iterator.next_gives g.L.Look.passes g.L.Look.stops) c.open_nodes-levels-else-len-first.result c.loop-first.left c.leaf_len-len.result (c.next.new.self, key_before None c.wait.new.waiting.items) (g.W.Writer.state c.loop-first.writer) c.take_items-else-len-eq0.new.items.items (c.take_items-else-len-eq0.new.source, last_taken c.wait.new.waiting.items c.take_items-else-len-eq0.new.items.items) c.in_ok-next_place.next_place (g.W.Writer.state c.write_leaf-else-len-eq0.new.writer) c.leaf_len-len.ensures.leaf (omega (arith, c.if-len-eq0.false)) c.leaf_len-len.ensures.few (leaf_given g.I.Iterator.next_gives g.L.Look.passes g.L.Look.stops c.next.new.self c.take_items-else-len-eq0.new.source (option_copied c.last_key-else-len-eq0.result) (key_before None c.wait.new.waiting.items) c.take_items-else-len-eq0.new.items.items c.wait.new.waiting.items (c.last_key-else-len-eq0.ensures ∙ ap (λ (xs : List (g.row.BKU.Denot × g.row.BVU.Denot)). key_before None xs) c.deref-else-len-eq0.ensures.value) refl (c.take_items-else-len-eq0.ensures.all took)) (c.take_items-else-len-eq0.ensures.len took) written in
    record {
      stands = stands_next (layout_of g.K.Portable.kind g.V.Portable.kind g.row.E) g.KU.Archive.archival g.VU.Archive.archival (both_borrowed g.BKU.Borrow.borrowed g.BVU.Borrow.borrowed) (Gives g.I.Iterator.next_gives g.L.Look.passes g.L.Look.stops) c.args.above c.args.on_last (c.args.source.now, None) (g.W.Writer.state c.args.writer.now) some c.open_nodes-levels-else-len-first.result c.loop-first.left (c.loop-first.taken + 1) c.leaf_len-len.result c.wait.new.waiting.items c.wait.new.children.items c.open_nodes-levels-else-len-first.new.starts.items (c.next.new.self, key_before None c.wait.new.waiting.items) (g.W.Writer.state c.loop-first.writer) (Some c.in_ok-next_place.next_place) (c.take_items-else-len-eq0.new.source, last_taken c.wait.new.waiting.items c.take_items-else-len-eq0.new.items.items) (g.W.Writer.state c.write_leaf-else-len-eq0.new.writer) c.saturating_sub-left-else-len-eq0.result (c.loop-first.taken + 1 + c.leaf_len-len.result) goes c.leaf_len-len.ensures.leaf next c.saturating_sub-left-else-len-eq0.ensures refl;
      free = c.in_ok-next_place.ensures.free;
      waiting_room = omega (arith, inv.waiting_room, c.wait.ensures.room.0);
      child_room = omega (arith, inv.child_room, c.wait.ensures.room.1);
      start_room = omega (arith, inv.start_room, c.open_nodes-levels-else-len-first.ensures.room);
      leaf_room = omega (arith, inv.leaf_room, c.clear.ensures.capacity, c.take_items-else-len-eq0.ensures.capacity);
      can = c.take_items-else-len-eq0.ensures.can took;
      ends = c.take_items-else-len-eq0.ensures.ends took;
      sized = omega (arith, inv.sized, (c.in-Some-next.ensures.goes.on inv.ends).2, c.take_items-else-len-eq0.ensures.left took);
      last = c.in_ok-next_place.ensures.last;
    }

pub loop-first-preserved-then-len-eq0 : goal.loop-first-preserved-then-len-eq0
loop-first-preserved-then-len-eq0 g c =
    let some = (room_of g.K.Portable.kind g.V.Portable.kind g.row.E g.met.K.Portable.laws g.met.V.Portable.laws c.requires.fitting).some in
    let front = c.in-Some.ensures.some.0 in
    let eq = c.in-Some.ensures.some.1 in
    let inv = c.loop-first.invariant in
    let sz = sizes (layout_of g.K.Portable.kind g.V.Portable.kind g.row.E) g.KU.Archive.archival g.VU.Archive.archival (both_borrowed g.BKU.Borrow.borrowed g.BVU.Borrow.borrowed) (Gives g.I.Iterator.next_gives g.L.Look.passes g.L.Look.stops) c.args.above c.args.on_last (c.args.source.now, None) (g.W.Writer.state c.args.writer.now) some c.loop-first.levels c.loop-first.left c.loop-first.taken c.loop-first.waiting.items c.loop-first.children.items c.loop-first.starts.items front c.in-Some.first c.loop-first.child (c.loop-first.source, last_taken c.loop-first.waiting.items c.loop-first.leaf.items) (g.W.Writer.state c.loop-first.writer) inv.stands eq in
    let less : length c.loop-first.waiting.items < c.in-Some.first + g.row.E = omega (arith, c.if-len-first.false, c.len-in-Some.ensures, c.loop-first.waiting.ok.0, sz.waiting_few, sz.first_low) in
    let goes = goes_on (layout_of g.K.Portable.kind g.V.Portable.kind g.row.E) g.KU.Archive.archival g.VU.Archive.archival (both_borrowed g.BKU.Borrow.borrowed g.BVU.Borrow.borrowed) (Gives g.I.Iterator.next_gives g.L.Look.passes g.L.Look.stops) c.args.above c.args.on_last (c.args.source.now, None) (g.W.Writer.state c.args.writer.now) some c.loop-first.levels c.loop-first.left c.loop-first.taken c.loop-first.waiting.items c.loop-first.children.items c.loop-first.starts.items front c.in-Some.first c.loop-first.child (c.loop-first.source, last_taken c.loop-first.waiting.items c.loop-first.leaf.items) (g.W.Writer.state c.loop-first.writer) c.in-Some-next.entry (c.next.new.self, key_before None c.wait.new.waiting.items) c.open_nodes-levels-else-len-first.result (c.loop-first.taken + 1) c.wait.new.waiting.items c.wait.new.children.items c.open_nodes-levels-else-len-first.new.starts.items inv.stands eq less (entry_given g.I.Iterator.next_gives g.L.Look.passes g.L.Look.stops c.loop-first.source c.next.new.self (option_copied c.key_taken.result) (last_taken c.loop-first.waiting.items c.loop-first.leaf.items) c.in-Some-next.entry c.loop-first.waiting.items c.wait.new.waiting.items (c.key_taken.ensures ∙ same_lists c.deref-else-len-first.result.now c.loop-first.waiting.items c.deref-else-len-first-2.result.now c.loop-first.leaf.items c.deref-else-len-first.ensures.value c.deref-else-len-first-2.ensures.value) c.wait.ensures.waiting c.in-Some-next.ensures.steps) c.wait.ensures.waiting c.wait.ensures.children refl c.open_nodes-levels-else-len-first.ensures.below c.open_nodes-levels-else-len-first.ensures.inner
    (c.open_nodes-levels-else-len-first.ensures.opened ∙ ap (λ k. c.loop-first.starts.items ++ replicate (c.loop-first.levels - c.open_nodes-levels-else-len-first.result) k) (c.len-else-len-first.ensures ∙ c.wait.new.waiting.ok.0)) in
    let on = c.in-Some-next.ensures.goes.on inv.ends in
    let none : c.leaf_len-len.result ≡ 0 = c.if-len-eq0.true in
    let next = next_absent (layout_of g.K.Portable.kind g.V.Portable.kind g.row.E) g.KU.Archive.archival g.VU.Archive.archival (both_borrowed g.BKU.Borrow.borrowed g.BVU.Borrow.borrowed) (Gives g.I.Iterator.next_gives g.L.Look.passes g.L.Look.stops) c.open_nodes-levels-else-len-first.result c.loop-first.left c.leaf_len-len.result (c.next.new.self, key_before None c.wait.new.waiting.items) (g.W.Writer.state c.loop-first.writer) some c.leaf_len-len.ensures.leaf none in
    record {
      stands = subst (λ (xs : List (g.row.BKU.Denot × g.row.BVU.Denot)). Stands (layout_of g.K.Portable.kind g.V.Portable.kind g.row.E) g.KU.Archive.archival g.VU.Archive.archival (both_borrowed g.BKU.Borrow.borrowed g.BVU.Borrow.borrowed) (Gives g.I.Iterator.next_gives g.L.Look.passes g.L.Look.stops) c.args.above c.args.on_last (c.args.source.now, None) (g.W.Writer.state c.args.writer.now) c.open_nodes-levels-else-len-first.result c.loop-first.left (c.loop-first.taken + 1) c.wait.new.waiting.items c.wait.new.children.items c.open_nodes-levels-else-len-first.new.starts.items None (c.next.new.self, last_taken c.wait.new.waiting.items xs) (g.W.Writer.state c.loop-first.writer)) (sym c.clear.ensures.items)
          (stands_next (layout_of g.K.Portable.kind g.V.Portable.kind g.row.E) g.KU.Archive.archival g.VU.Archive.archival (both_borrowed g.BKU.Borrow.borrowed g.BVU.Borrow.borrowed) (Gives g.I.Iterator.next_gives g.L.Look.passes g.L.Look.stops) c.args.above c.args.on_last (c.args.source.now, None) (g.W.Writer.state c.args.writer.now) some c.open_nodes-levels-else-len-first.result c.loop-first.left (c.loop-first.taken + 1) c.leaf_len-len.result c.wait.new.waiting.items c.wait.new.children.items c.open_nodes-levels-else-len-first.new.starts.items (c.next.new.self, key_before None c.wait.new.waiting.items) (g.W.Writer.state c.loop-first.writer) None (c.next.new.self, key_before None c.wait.new.waiting.items) (g.W.Writer.state c.loop-first.writer) c.loop-first.left (c.loop-first.taken + 1) goes c.leaf_len-len.ensures.leaf next (none_left g.row.E c.open_nodes-levels-else-len-first.result c.loop-first.left c.leaf_len-len.result some c.leaf_len-len.ensures.leaf none) (omega (arith, none)));
      free = inv.free;
      waiting_room = omega (arith, inv.waiting_room, c.wait.ensures.room.0);
      child_room = omega (arith, inv.child_room, c.wait.ensures.room.1);
      start_room = omega (arith, inv.start_room, c.open_nodes-levels-else-len-first.ensures.room);
      leaf_room = omega (arith, inv.leaf_room, c.clear.ensures.capacity);
      can = on.0;
      ends = on.1;
      sized = omega (arith, inv.sized, on.2);
      last = inv.last;
    }

pub overflow_add-result : goal.overflow_add-result
overflow_add-result g c =
    let some = (room_of g.K.Portable.kind g.V.Portable.kind g.row.E g.met.K.Portable.laws g.met.V.Portable.laws c.requires.fitting).some in
    let front = c.in-Some.ensures.some.0 in
    let eq = c.in-Some.ensures.some.1 in
    let inv = c.loop-first.invariant in
    let sz = sizes (layout_of g.K.Portable.kind g.V.Portable.kind g.row.E) g.KU.Archive.archival g.VU.Archive.archival (both_borrowed g.BKU.Borrow.borrowed g.BVU.Borrow.borrowed) (Gives g.I.Iterator.next_gives g.L.Look.passes g.L.Look.stops) c.args.above c.args.on_last (c.args.source.now, None) (g.W.Writer.state c.args.writer.now) some c.loop-first.levels c.loop-first.left c.loop-first.taken c.loop-first.waiting.items c.loop-first.children.items c.loop-first.starts.items front c.in-Some.first c.loop-first.child (c.loop-first.source, last_taken c.loop-first.waiting.items c.loop-first.leaf.items) (g.W.Writer.state c.loop-first.writer) inv.stands eq in
    let less : length c.loop-first.waiting.items < c.in-Some.first + g.row.E = omega (arith, c.if-len-first.false, c.len-in-Some.ensures, c.loop-first.waiting.ok.0, sz.waiting_few, sz.first_low) in
    let claimed = all_claimed g.row.E c.args.above c.args.on_last c.args.claim c.requires.claim c.requires.most in
    let goes = goes_on (layout_of g.K.Portable.kind g.V.Portable.kind g.row.E) g.KU.Archive.archival g.VU.Archive.archival (both_borrowed g.BKU.Borrow.borrowed g.BVU.Borrow.borrowed) (Gives g.I.Iterator.next_gives g.L.Look.passes g.L.Look.stops) c.args.above c.args.on_last (c.args.source.now, None) (g.W.Writer.state c.args.writer.now) some c.loop-first.levels c.loop-first.left c.loop-first.taken c.loop-first.waiting.items c.loop-first.children.items c.loop-first.starts.items front c.in-Some.first c.loop-first.child (c.loop-first.source, last_taken c.loop-first.waiting.items c.loop-first.leaf.items) (g.W.Writer.state c.loop-first.writer) c.in-Some-next.entry (c.next.new.self, key_before None c.wait.new.waiting.items) c.open_nodes-levels-else-len-first.result (c.loop-first.taken + 1) c.wait.new.waiting.items c.wait.new.children.items c.open_nodes-levels-else-len-first.new.starts.items inv.stands eq less (entry_given g.I.Iterator.next_gives g.L.Look.passes g.L.Look.stops c.loop-first.source c.next.new.self (option_copied c.key_taken.result) (last_taken c.loop-first.waiting.items c.loop-first.leaf.items) c.in-Some-next.entry c.loop-first.waiting.items c.wait.new.waiting.items (c.key_taken.ensures ∙ same_lists c.deref-else-len-first.result.now c.loop-first.waiting.items c.deref-else-len-first-2.result.now c.loop-first.leaf.items c.deref-else-len-first.ensures.value c.deref-else-len-first-2.ensures.value) c.wait.ensures.waiting c.in-Some-next.ensures.steps) c.wait.ensures.waiting c.wait.ensures.children refl c.open_nodes-levels-else-len-first.ensures.below c.open_nodes-levels-else-len-first.ensures.inner
    (c.open_nodes-levels-else-len-first.ensures.opened ∙ ap (λ k. c.loop-first.starts.items ++ replicate (c.loop-first.levels - c.open_nodes-levels-else-len-first.result) k) (c.len-else-len-first.ensures ∙ c.wait.new.waiting.ok.0)) in
    let room = goes_room (layout_of g.K.Portable.kind g.V.Portable.kind g.row.E) g.KU.Archive.archival g.VU.Archive.archival (both_borrowed g.BKU.Borrow.borrowed g.BVU.Borrow.borrowed) (Gives g.I.Iterator.next_gives g.L.Look.passes g.L.Look.stops) c.args.above c.args.on_last (c.args.source.now, None) (g.W.Writer.state c.args.writer.now) some c.open_nodes-levels-else-len-first.result c.loop-first.left (c.loop-first.taken + 1) c.leaf_len-len.result c.wait.new.waiting.items c.wait.new.children.items c.open_nodes-levels-else-len-first.new.starts.items (c.next.new.self, key_before None c.wait.new.waiting.items) (g.W.Writer.state c.loop-first.writer) goes c.leaf_len-len.ensures.leaf in
    let room2 = goes_counts (layout_of g.K.Portable.kind g.V.Portable.kind g.row.E) g.KU.Archive.archival g.VU.Archive.archival (both_borrowed g.BKU.Borrow.borrowed g.BVU.Borrow.borrowed) (Gives g.I.Iterator.next_gives g.L.Look.passes g.L.Look.stops) c.args.above c.args.on_last (c.args.source.now, None) (g.W.Writer.state c.args.writer.now) some c.open_nodes-levels-else-len-first.result c.loop-first.left (c.loop-first.taken + 1) c.wait.new.waiting.items c.wait.new.children.items c.open_nodes-levels-else-len-first.new.starts.items (c.next.new.self, key_before None c.wait.new.waiting.items) (g.W.Writer.state c.loop-first.writer) goes in
    let short = c.take_items-else-len-eq0.ensures.short c.if-not-take_items-2.true in
    record { fits = fits_below _ c.args.claim (omega (arith, room, claimed, short)) c.requires.small }

pub overflow_add-taken-else-len-eq0 : goal.overflow_add-taken-else-len-eq0
overflow_add-taken-else-len-eq0 g c =
    let some = (room_of g.K.Portable.kind g.V.Portable.kind g.row.E g.met.K.Portable.laws g.met.V.Portable.laws c.requires.fitting).some in
    let front = c.in-Some.ensures.some.0 in
    let eq = c.in-Some.ensures.some.1 in
    let inv = c.loop-first.invariant in
    let sz = sizes (layout_of g.K.Portable.kind g.V.Portable.kind g.row.E) g.KU.Archive.archival g.VU.Archive.archival (both_borrowed g.BKU.Borrow.borrowed g.BVU.Borrow.borrowed) (Gives g.I.Iterator.next_gives g.L.Look.passes g.L.Look.stops) c.args.above c.args.on_last (c.args.source.now, None) (g.W.Writer.state c.args.writer.now) some c.loop-first.levels c.loop-first.left c.loop-first.taken c.loop-first.waiting.items c.loop-first.children.items c.loop-first.starts.items front c.in-Some.first c.loop-first.child (c.loop-first.source, last_taken c.loop-first.waiting.items c.loop-first.leaf.items) (g.W.Writer.state c.loop-first.writer) inv.stands eq in
    let less : length c.loop-first.waiting.items < c.in-Some.first + g.row.E = omega (arith, c.if-len-first.false, c.len-in-Some.ensures, c.loop-first.waiting.ok.0, sz.waiting_few, sz.first_low) in
    let claimed = all_claimed g.row.E c.args.above c.args.on_last c.args.claim c.requires.claim c.requires.most in
    let goes = goes_on (layout_of g.K.Portable.kind g.V.Portable.kind g.row.E) g.KU.Archive.archival g.VU.Archive.archival (both_borrowed g.BKU.Borrow.borrowed g.BVU.Borrow.borrowed) (Gives g.I.Iterator.next_gives g.L.Look.passes g.L.Look.stops) c.args.above c.args.on_last (c.args.source.now, None) (g.W.Writer.state c.args.writer.now) some c.loop-first.levels c.loop-first.left c.loop-first.taken c.loop-first.waiting.items c.loop-first.children.items c.loop-first.starts.items front c.in-Some.first c.loop-first.child (c.loop-first.source, last_taken c.loop-first.waiting.items c.loop-first.leaf.items) (g.W.Writer.state c.loop-first.writer) c.in-Some-next.entry (c.next.new.self, key_before None c.wait.new.waiting.items) c.open_nodes-levels-else-len-first.result (c.loop-first.taken + 1) c.wait.new.waiting.items c.wait.new.children.items c.open_nodes-levels-else-len-first.new.starts.items inv.stands eq less (entry_given g.I.Iterator.next_gives g.L.Look.passes g.L.Look.stops c.loop-first.source c.next.new.self (option_copied c.key_taken.result) (last_taken c.loop-first.waiting.items c.loop-first.leaf.items) c.in-Some-next.entry c.loop-first.waiting.items c.wait.new.waiting.items (c.key_taken.ensures ∙ same_lists c.deref-else-len-first.result.now c.loop-first.waiting.items c.deref-else-len-first-2.result.now c.loop-first.leaf.items c.deref-else-len-first.ensures.value c.deref-else-len-first-2.ensures.value) c.wait.ensures.waiting c.in-Some-next.ensures.steps) c.wait.ensures.waiting c.wait.ensures.children refl c.open_nodes-levels-else-len-first.ensures.below c.open_nodes-levels-else-len-first.ensures.inner
    (c.open_nodes-levels-else-len-first.ensures.opened ∙ ap (λ k. c.loop-first.starts.items ++ replicate (c.loop-first.levels - c.open_nodes-levels-else-len-first.result) k) (c.len-else-len-first.ensures ∙ c.wait.new.waiting.ok.0)) in
    let room = goes_room (layout_of g.K.Portable.kind g.V.Portable.kind g.row.E) g.KU.Archive.archival g.VU.Archive.archival (both_borrowed g.BKU.Borrow.borrowed g.BVU.Borrow.borrowed) (Gives g.I.Iterator.next_gives g.L.Look.passes g.L.Look.stops) c.args.above c.args.on_last (c.args.source.now, None) (g.W.Writer.state c.args.writer.now) some c.open_nodes-levels-else-len-first.result c.loop-first.left (c.loop-first.taken + 1) c.leaf_len-len.result c.wait.new.waiting.items c.wait.new.children.items c.open_nodes-levels-else-len-first.new.starts.items (c.next.new.self, key_before None c.wait.new.waiting.items) (g.W.Writer.state c.loop-first.writer) goes c.leaf_len-len.ensures.leaf in
    let room2 = goes_counts (layout_of g.K.Portable.kind g.V.Portable.kind g.row.E) g.KU.Archive.archival g.VU.Archive.archival (both_borrowed g.BKU.Borrow.borrowed g.BVU.Borrow.borrowed) (Gives g.I.Iterator.next_gives g.L.Look.passes g.L.Look.stops) c.args.above c.args.on_last (c.args.source.now, None) (g.W.Writer.state c.args.writer.now) some c.open_nodes-levels-else-len-first.result c.loop-first.left (c.loop-first.taken + 1) c.wait.new.waiting.items c.wait.new.children.items c.open_nodes-levels-else-len-first.new.starts.items (c.next.new.self, key_before None c.wait.new.waiting.items) (g.W.Writer.state c.loop-first.writer) goes in
    record { fits = fits_below (c.loop-first.taken + 1 + c.leaf_len-len.result) c.args.claim (omega (arith, room, claimed)) c.requires.small }

pub write_leaf-requires-else-len-eq0-clause-count : goal.write_leaf-requires-else-len-eq0-clause-count
write_leaf-requires-else-len-eq0-clause-count g c =
    let z : length c.take_items-else-len-eq0.new.items.items ≤ g.row.E = omega (arith, c.take_items-else-len-eq0.ensures.len c.if-not-take_items-2.false, c.leaf_len-len.ensures.few) in
    subst (λ xs. length xs ≤ g.row.E) (sym c.deref-else-len-eq0-2.ensures.value) z

pub returns-clause-left : goal.returns-clause-left
returns-clause-left g c =
    let claimed = all_claimed g.row.E c.args.above c.args.on_last c.args.claim c.requires.claim c.requires.most in
    let all = stands_taken (layout_of g.K.Portable.kind g.V.Portable.kind g.row.E) g.KU.Archive.archival g.VU.Archive.archival (both_borrowed g.BKU.Borrow.borrowed g.BVU.Borrow.borrowed) (Gives g.I.Iterator.next_gives g.L.Look.passes g.L.Look.stops) c.args.above c.args.on_last (c.args.source.now, None) (g.W.Writer.state c.args.writer.now) c.loop-first.levels c.loop-first.left c.loop-first.taken c.loop-first.waiting.items c.loop-first.children.items c.loop-first.starts.items c.loop-first.child (c.loop-first.source, last_taken c.loop-first.waiting.items c.loop-first.leaf.items) (g.W.Writer.state c.loop-first.writer) c.loop-first.invariant.stands c.in_default.ensures.none in
    omega (arith, c.loop-first.invariant.sized, all, claimed)

pub keep_last-requires-clause-room : goal.keep_last-requires-clause-room
keep_last-requires-clause-room g c =
    let some = (room_of g.K.Portable.kind g.V.Portable.kind g.row.E g.met.K.Portable.laws g.met.V.Portable.laws c.requires.fitting).some in
    omega (arith, some, c.loop-first.invariant.leaf_room)

pub take_items-requires-else-len-eq0-clause-can : goal.take_items-requires-else-len-eq0-clause-can
take_items-requires-else-len-eq0-clause-can g c = (c.in-Some-next.ensures.goes.on c.loop-first.invariant.ends).0

pub take_items-requires-else-len-eq0-clause-ends : goal.take_items-requires-else-len-eq0-clause-ends
take_items-requires-else-len-eq0-clause-ends g c = (c.in-Some-next.ensures.goes.on c.loop-first.invariant.ends).1
