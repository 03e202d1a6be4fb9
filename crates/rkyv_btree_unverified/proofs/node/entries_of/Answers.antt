-- What a node's first byte and its length give.
use Rattle.std.proofs.Common.{arith, ◌+◌, ◌≤◌}
use Rattle.std.specs.Prelude.{pos}
use Rattle.rkyv_btree_format.proofs.Sizes.{room_of}
use Rattle.rkyv_btree_format.specs.Layout.{layout_of, inner_size}
use Rattle.rkyv_btree_unverified.specs.Steps.{bad_kind, inner_past, too_many, leaf, inner}
use Rattle.rkyv_btree_unverified.proofs.Goes.{has_kind}
use Rattle.rkyv_btree_unverified.proofs.Places.{kept}
use Rattle.rkyv_btree_unverified.proofs.node.entries_of.Goals as goal

pub overflow_cast-result : goal.overflow_cast-result
overflow_cast-result g c =
    let room = room_of _ _ _ g.met.K.Portable.laws g.met.V.Portable.laws c.requires.fitting in
    omega (arith, room.entries, c.entries_per_node-2.ensures)

pub returns-then-len-entries_per_node-clause-gives : goal.returns-then-len-entries_per_node-clause-gives
returns-then-len-entries_per_node-clause-gives g c b byte count =
    let K = g.K.Portable.kind in let V = g.V.Portable.kind in let E = g.M.ArchivedMap.E in
    let many = too_many (has_kind K V E b c.args.hi c.args.node 0 c.requires.room (rw c.if-kind-eq0.true at byte)) (omega (arith, count, c.if-len-entries_per_node.true, c.entries_per_node.ensures)) in
    rw (c.from.ensures, ← count, c.entries_per_node-then-len-entries_per_node.ensures) many

pub returns-then-kind-eq0-clause-gives : goal.returns-then-kind-eq0-clause-gives
returns-then-kind-eq0-clause-gives g c b byte count =
    let K = g.K.Portable.kind in let V = g.V.Portable.kind in let E = g.M.ArchivedMap.E in
    let few = leaf (has_kind K V E b c.args.hi c.args.node 0 c.requires.room (rw c.if-kind-eq0.true at byte)) (omega (arith, count, c.if-len-entries_per_node.false, c.entries_per_node.ensures)) in
    rw (← count) few

pub returns-then-kind-ne1-clause-gives : goal.returns-then-kind-ne1-clause-gives
returns-then-kind-ne1-clause-gives g c b byte count =
    let K = g.K.Portable.kind in let V = g.V.Portable.kind in let E = g.M.ArchivedMap.E in
    bad_kind (has_kind K V E b c.args.hi c.args.node c.args.kind c.requires.room byte) c.if-kind-eq0.false c.if-kind-ne1.true

pub returns-then-hi-node-clause-gives : goal.returns-then-hi-node-clause-gives
returns-then-hi-node-clause-gives g c b byte count =
    let K = g.K.Portable.kind in let V = g.V.Portable.kind in let E = g.M.ArchivedMap.E in
    let room = c.requires.room.room in
    let past = inner_past (has_kind K V E b c.args.hi c.args.node 1 c.requires.room (rw c.if-kind-ne1.false at byte)) (omega (arith, c.inner_size.ensures, c.if-hi-node.true, room)) in
    rw (kept c.from-then-hi-node.result (pos c.args.node) c.from-then-hi-node.ensures c.from-then-hi-node.type_inv) past

pub returns-clause-gives : goal.returns-clause-gives
returns-clause-gives g c b byte count =
    let K = g.K.Portable.kind in let V = g.V.Portable.kind in let E = g.M.ArchivedMap.E in
    let room = c.requires.room.room in
    let low : c.args.node + inner_size (layout_of K V E) ≤ c.args.hi = omega (arith, c.inner_size.ensures, c.if-hi-node.false, room) in
    let is = inner (record { start = omega arith; room = low; aligned = c.requires.room.aligned; kind_byte = rw c.if-kind-ne1.false at byte }) in
    rw c.entries_per_node-2.ensures is
