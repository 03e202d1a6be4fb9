use Rattle.std.proofs.Common.{◌≡◌, ◌≤◌, List, length}
use Rattle.rkyv_btree_compound.specs.Elements.{Elements}
use Rattle.rkyv_btree_compound.proofs.elements.check_elements.Given as goal

-- those before this one mean values
abbrev pub invariant-loop-i : goal.invariant-loop-i
invariant-loop-i g l =
    ((vs : List g.T.Portable.kind.Value) × (length vs ≡ l.i) × Elements g.T.Portable.kind l.buf l.lo l.hi l.start l.left vs)
    × (l.lo ≤ l.left)
    × (l.left ≤ l.hi)
