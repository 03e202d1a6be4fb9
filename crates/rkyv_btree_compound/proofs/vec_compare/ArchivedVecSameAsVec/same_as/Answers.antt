-- The test of all elements is that of the vector.
use Rattle.std.proofs.Common.{◌∙◌, List, ap, sym}
use Rattle.std.specs.Cmp.Lexicographic.{pointwise}
use Rattle.rkyv_btree_compound.specs.Vectors.{vector_read}
use Rattle.rkyv_btree_compound.specs.laws.VectorComparing.{vector_tested}
use Rattle.rkyv_btree_compound.proofs.vec_compare.ArchivedVecSameAsVec.same_as.Goals as goal

pub returns : goal.returns
returns g c =
    let t = g.met.T.SameAs.tests in
    let view = c.args.view.now in
    let natives = c.args.native.now.items in
    c.are_same_as.ensures t.same t.by_value
    ∙ (ap (λ (vs : List g.T.Portable.kind.Value). pointwise t.same vs c.as_slice.result.now) c.new.ensures
    ∙ (ap (λ (ms : List g.row.N.Denot). pointwise t.same (vector_read g.T.Portable.kind view.buf.now view.pos) ms) c.as_slice.ensures.value ∙ sym (vector_tested t view.buf.now view.pos natives)))
