use Rattle.std.proofs.Common.{◌≡◌, ◌≤◌, ◌+◌, ◌-◌, ◌*◌}
use Rattle.rkyv_btree_verify.specs.mirror.Check.{check_node, check_pointers}
use Rattle.rkyv_btree_verify.specs.mirror.Counted.{node_steps, pointers_steps, Within}
use Rattle.rkyv_btree_format.specs.Layout.{layout_of}
use Rattle.rkyv_btree_verify.proofs.verify.+nodes.Given as goal

abbrev pub decreases-check_node : goal.decreases-check_node
decreases-check_node g l = 5 * l.levels

abbrev pub decreases-check_placed : goal.decreases-check_placed
decreases-check_placed g l = 5 * l.levels + 4

abbrev pub decreases-check_inner : goal.decreases-check_inner
decreases-check_inner g l = 5 * l.levels + 3

abbrev pub decreases-check_pointers : goal.decreases-check_pointers
decreases-check_pointers g l = 5 * l.levels + 2

abbrev pub decreases-check_pointer : goal.decreases-check_pointer
decreases-check_pointer g l = 5 * l.levels + 1

-- what the rest gives from here on is what all of it gives, and so with the steps
abbrev pub invariant-check_pointers-loop-i : goal.invariant-check_pointers-loop-i
invariant-check_pointers-loop-i g l =
    let s = layout_of g.K.Portable.kind g.V.Portable.kind g.row.E in
    let node = check_node s g.K.Portable.kind.leaves g.V.Portable.kind.leaves l.buf l.levels in
    let steps = node_steps s g.K.Portable.kind.leaves g.V.Portable.kind.leaves l.buf l.levels in
    (check_pointers s g.K.Portable.kind.leaves g.V.Portable.kind.leaves l.buf node l.node (l.i-end - l.i) l.i l.so_far ≡ check_pointers s g.K.Portable.kind.leaves g.V.Portable.kind.leaves l.buf node l.node (g.row.E + 1) 0 (record { lo = l.lo; entries = 0 }))
    × Within l.lo l.node l.so_far
    × (l.steps + pointers_steps s g.K.Portable.kind.leaves g.V.Portable.kind.leaves l.buf node steps l.node (l.i-end - l.i) l.i l.so_far ≡ l.initial.steps + pointers_steps s g.K.Portable.kind.leaves g.V.Portable.kind.leaves l.buf node steps l.node (g.row.E + 1) 0 (record { lo = l.lo; entries = 0 }))
    × (l.steps + l.lo ≤ l.initial.steps + l.so_far.lo)
