use Rattle.std.proofs.Common.{◌≡◌}
use Rattle.std.specs.Cmp.Lexicographic.{pointwise}
use Rattle.rkyv_btree_compound.specs.Elements.{elements_read}
use Rattle.rkyv_btree_compound.proofs.ArrayElements.{rest_read}
use Rattle.rkyv_btree_compound.proofs.array_view.ArchivedArrayViewEq.is_same.Given as goal

abbrev pub invariant-loop-i : goal.invariant-loop-i
invariant-loop-i g l =
    let T = g.T.Portable.kind in
    pointwise T.same (elements_read T l.a.buf.now g.row.N l.a.pos) (elements_read T l.b.buf.now g.row.N l.b.pos)
    ≡ pointwise T.same (rest_read T l.a.buf.now g.row.N l.a.pos l.i) (rest_read T l.b.buf.now g.row.N l.b.pos l.i)
