-- The number of elements is the number that is read.
use Rattle.std.proofs.Common.{◌∙◌, sym}
use Rattle.rkyv_btree_compound.proofs.VectorViews.{read_length}
use Rattle.rkyv_btree_portable.specs.Text.{text_len}
use Rattle.rkyv_btree_compound.proofs.vector_view.ViewArchivedVecViewVec.len.Goals as goal

pub returns : goal.returns
returns g c =
    let view = c.args.self in
    c.num32.ensures ∙ sym (read_length g.T.Portable.kind view.buf.now (text_len view.buf.now view.pos) _)
