-- The cycle's functions stay in the window, and what its loop gives is what is left of it.
use Rattle.std.proofs.lemmas.Grind.{common_steps}
use Rattle.std.proofs.Common.{◌≡◌, ◌≤◌, ◌+◌, ◌∙◌, arith, rules}
use Rattle.std.proofs.lemmas.Result.{IfOk-weaker, err_from_is_err_and}
use Rattle.rkyv_btree_verify.specs.mirror.Counted.{Within}
use Rattle.rkyv_btree_format.specs.Layout.{layout_of, leaf_size}
use Rattle.rkyv_btree_format.proofs.Sizes.{room_of}
use Rattle.rkyv_btree_verify.proofs.Loops.{pointers_step, pointers_stop, counts_step, counts_stop}
use Rattle.rkyv_btree_verify.proofs.verify.+nodes.Goals as goal

pub check_inner-check_entries-requires-clause-room : goal.check_inner-check_entries-requires-clause-room
check_inner-check_entries-requires-clause-room g t c =
    let room = room_of _ _ g.row.E g.met.K.Portable.laws g.met.V.Portable.laws c.requires.fitting in
    omega (arith, room.parts.leaf)

pub check_inner-overflow_add-result-2 : goal.check_inner-overflow_add-result-2
check_inner-overflow_add-result-2 g t c =
    let room = room_of _ _ g.row.E g.met.K.Portable.laws g.met.V.Portable.laws c.requires.fitting in
    omega (arith, room.entries, c.in_ok-children.ensures.within)

pub check_inner-returns-clause-within : goal.check_inner-returns-clause-within
check_inner-returns-clause-within g t c =
    let room = room_of _ _ g.row.E g.met.K.Portable.laws g.met.V.Portable.laws c.requires.fitting in
    let small = room.entries in
    let leaf = room.parts.leaf in
    let some = room.eight in
    let within = c.in_ok-children.ensures.within in
    (omega arith, omega arith, omega arith)

pub check_inner-returns-clause-paced : goal.check_inner-returns-clause-paced
check_inner-returns-clause-paced g t c =
    let room = room_of _ _ g.row.E g.met.K.Portable.laws g.met.V.Portable.laws c.requires.fitting in
    omega (arith, room.parts.leaf, room.eight, c.in_ok-children.ensures.within, c.in_ok-children.ensures.paced)

pub check_placed-bounds-buf-node : goal.check_placed-bounds-buf-node
check_placed-bounds-buf-node g t c =
    let room = room_of _ _ g.row.E g.met.K.Portable.laws g.met.V.Portable.laws c.requires.fitting in
    omega (arith, room.eight)

pub check_placed-returns-then-kind-eq0-clause-paced : goal.check_placed-returns-then-kind-eq0-clause-paced
check_placed-returns-then-kind-eq0-clause-paced g t c =
    let s = layout_of g.K.Portable.kind g.V.Portable.kind g.row.E in
    let room = room_of _ _ g.row.E g.met.K.Portable.laws g.met.V.Portable.laws c.requires.fitting in
    let some = room.eight in
    IfOk-weaker c.check_leaf.result (λ k. (k.lo ≡ c.args.node + leaf_size s) × (k.entries ≤ g.row.E)) (λ k. c.args.steps.now + c.args.window.lo + 1 ≤ c.args.steps.now + k.lo) (λ k h. omega arith) c.check_leaf.ensures.within

pub check_placed-returns-then-kind-eq0-clause-within : goal.check_placed-returns-then-kind-eq0-clause-within
check_placed-returns-then-kind-eq0-clause-within g t c =
    let s = layout_of g.K.Portable.kind g.V.Portable.kind g.row.E in
    let room = room_of _ _ g.row.E g.met.K.Portable.laws g.met.V.Portable.laws c.requires.fitting in
    let small = room.entries in
    let some = room.eight in
    IfOk-weaker c.check_leaf.result (λ k. (k.lo ≡ c.args.node + leaf_size s) × (k.entries ≤ g.row.E)) (Within c.args.window.lo c.args.window.hi) (λ k h. (omega arith, omega arith, omega arith)) c.check_leaf.ensures.within

pub check_pointers-overflow_add-i-end : goal.check_pointers-overflow_add-i-end
check_pointers-overflow_add-i-end g t c =
    let room = room_of _ _ g.row.E g.met.K.Portable.laws g.met.V.Portable.laws c.requires.fitting in
    omega (arith, room.entries)

pub check_pointers-loop-i-preserved : goal.check_pointers-loop-i-preserved
check_pointers-loop-i-preserved g t c =
    let s = layout_of g.K.Portable.kind g.V.Portable.kind g.row.E in
    let within = c.in_ok-so_far.ensures.within in
    let paced = c.in_ok-so_far.ensures.paced in (
      pointers_step s g.K.Portable.kind.leaves g.V.Portable.kind.leaves _ _ _ _ _ _ _ c.loop-i-test.true c.in_ok-so_far.ensures.gives ∙ c.loop-i.invariant.0,
      (omega arith, omega arith, omega arith),
      counts_step s g.K.Portable.kind.leaves g.V.Portable.kind.leaves _ _ _ _ _ _ _ _ _ _ c.loop-i-test.true c.in_ok-so_far.ensures.gives c.in_ok-so_far.ensures.counts ∙ c.loop-i.invariant.2,
      omega arith,
    )

pub check_pointers-returns-in_err-so_far-clause-gives : goal.check_pointers-returns-in_err-so_far-clause-gives
check_pointers-returns-in_err-so_far-clause-gives g t c =
    let s = layout_of g.K.Portable.kind g.V.Portable.kind g.row.E in
    let p = err_from_is_err_and c.from_residual.result c.from_residual.ensures.1 in
    rw (p.1, p.2) (pointers_stop s g.K.Portable.kind.leaves g.V.Portable.kind.leaves _ _ _ _ _ _ _ c.loop-i-test.true c.in_err-so_far.ensures.gives ∙ c.loop-i.invariant.0)

pub check_pointers-returns-in_err-so_far-clause-counts : goal.check_pointers-returns-in_err-so_far-clause-counts
check_pointers-returns-in_err-so_far-clause-counts g t c =
    let s = layout_of g.K.Portable.kind g.V.Portable.kind g.row.E in
    counts_stop s g.K.Portable.kind.leaves g.V.Portable.kind.leaves _ _ _ _ _ _ _ _ _ _ c.loop-i-test.true c.in_err-so_far.ensures.gives c.in_err-so_far.ensures.counts ∙ c.loop-i.invariant.2

pub check_node-returns-then-levels-eq0-clause-counts : goal.check_node-returns-then-levels-eq0-clause-counts
check_node-returns-then-levels-eq0-clause-counts g t c = search rules

pub check_node-returns-in_err-node-clause-gives : goal.check_node-returns-in_err-node-clause-gives
check_node-returns-in_err-node-clause-gives g t c = grind (arith, common_steps)

pub check_node-returns-in_err-node-clause-counts : goal.check_node-returns-in_err-node-clause-counts
check_node-returns-in_err-node-clause-counts g t c = grind (arith, common_steps)

pub check_node-returns-clause-gives : goal.check_node-returns-clause-gives
check_node-returns-clause-gives g t c = grind arith

pub check_node-returns-clause-counts : goal.check_node-returns-clause-counts
check_node-returns-clause-counts g t c = grind arith

pub check_node-check_placed-requires : goal.check_node-check_placed-requires
check_node-check_placed-requires g t c κs within = search rules
