use Rattle.std.proofs.Common.{◌≡◌, drop}
use Rattle.std.specs.Cmp.Lexicographic.{pointwise}
use Rattle.rkyv_btree_compound.specs.ArrayNatives.{array_same_at}
use Rattle.rkyv_btree_compound.proofs.ArrayElements.{rest_places}
use Rattle.rkyv_btree_compound.proofs.array_view.ArchivedArraySameAsArray.same_as.Given as goal

abbrev pub invariant-loop-i : goal.invariant-loop-i
invariant-loop-i g l =
    let T = g.T.Portable.kind in
    array_same_at T g.row.N g.T.SameAs.same_at l.native l.view.buf.now l.view.pos
    ≡ pointwise (λ place native. g.T.SameAs.same_at native l.view.buf.now place) (rest_places T g.row.N l.view.pos l.i) (drop l.i l.native)
