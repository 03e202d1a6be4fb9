use Rattle.std.proofs.Common.{◌≡◌, ◌≤◌, ◌-◌}
use Rattle.rkyv_btree_verify.specs.mirror.Check.{check_entries}
use Rattle.rkyv_btree_format.specs.Layout.{layout_of}
use Rattle.rkyv_btree_verify.proofs.verify.check_entries.Given as goal

-- what the rest gives from here on is what all of it gives
abbrev pub invariant-loop-i : goal.invariant-loop-i
invariant-loop-i g l =
    let s = layout_of g.K.Portable.kind g.V.Portable.kind g.row.E in
    (check_entries s g.K.Portable.kind.leaves g.V.Portable.kind.leaves l.buf l.node (l.n - l.i) l.i l.left ≡ check_entries s g.K.Portable.kind.leaves g.V.Portable.kind.leaves l.buf l.node l.n 0 l.lo)
    × (l.lo ≤ l.left)
    × (l.left ≤ l.node)
