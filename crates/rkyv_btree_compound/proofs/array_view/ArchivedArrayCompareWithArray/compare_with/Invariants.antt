use Rattle.std.proofs.Common.{◌≡◌, drop}
use Rattle.std.specs.Cmp.Lexicographic.{slice_cmp}
use Rattle.rkyv_btree_compound.specs.ArrayNatives.{array_compared_at}
use Rattle.rkyv_btree_compound.proofs.ArrayElements.{rest_places}
use Rattle.rkyv_btree_compound.proofs.array_view.ArchivedArrayCompareWithArray.compare_with.Given as goal

abbrev pub invariant-loop-i : goal.invariant-loop-i
invariant-loop-i g l =
    let T = g.T.Portable.kind in
    array_compared_at T g.row.N g.T.CompareWith.compared_at l.native l.view.buf.now l.view.pos
    ≡ slice_cmp (λ native place. g.T.CompareWith.compared_at native l.view.buf.now place) (drop l.i l.native) (rest_places T g.row.N l.view.pos l.i)
