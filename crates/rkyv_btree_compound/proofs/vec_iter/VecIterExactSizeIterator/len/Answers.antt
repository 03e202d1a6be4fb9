-- As many elements remain as come after those that were taken.
use Rattle.std.proofs.Common.{arith}
use Rattle.std.specs.Int.RustNames.{unsigned_abs}
use Rattle.std.proofs.lemmas.List.{length-drop}
use Rattle.rkyv_btree_compound.proofs.VectorViews.{read_length}
use Rattle.rkyv_btree_compound.specs.Vectors.{vector_read}
use Rattle.rkyv_btree_portable.specs.Bytes.{place_at}
use Rattle.rkyv_btree_portable.specs.Text.{text_len}
use Rattle.rkyv_btree_compound.proofs.vec_iter.VecIterExactSizeIterator.len.Goals as goal

pub returns-clause-value : goal.returns-clause-value
returns-clause-value g c =
    let it = c.args.self.now in
    let long = read_length g.T.Portable.kind it.buf.now (text_len it.buf.now it.pos) (unsigned_abs (place_at it.buf.now it.pos)) in
    omega (arith, c.saturating_sub.ensures, c.num32-count.ensures, long, length-drop it.next (vector_read g.T.Portable.kind it.buf.now it.pos))
