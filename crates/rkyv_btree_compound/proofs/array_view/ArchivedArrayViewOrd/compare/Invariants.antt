use Rattle.std.proofs.Common.{◌≡◌}
use Rattle.std.specs.Cmp.Lexicographic.{slice_cmp}
use Rattle.rkyv_btree_compound.specs.Elements.{elements_read}
use Rattle.rkyv_btree_compound.proofs.ArrayElements.{rest_read}
use Rattle.rkyv_btree_compound.proofs.array_view.ArchivedArrayViewOrd.compare.Given as goal

abbrev pub invariant-loop-i : goal.invariant-loop-i
invariant-loop-i g l =
    let T = g.T.Portable.kind in
    slice_cmp T.order (elements_read T l.a.buf.now g.row.N l.a.pos) (elements_read T l.b.buf.now g.row.N l.b.pos)
    ≡ slice_cmp T.order (rest_read T l.a.buf.now g.row.N l.a.pos l.i) (rest_read T l.b.buf.now g.row.N l.b.pos l.i)
