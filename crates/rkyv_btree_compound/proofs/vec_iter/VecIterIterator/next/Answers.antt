-- The next element is the first of those that remain.
use Rattle.std.proofs.Common.{sym, arith}
use Rattle.std.specs.Int.RustNames.{unsigned_abs}
use Rattle.std.proofs.lemmas.Option.{slice_get_within}
use Rattle.rkyv_btree_compound.proofs.VectorViews.{drop_none, drop_some, read_length, standing}
use Rattle.rkyv_btree_compound.specs.Vectors.{vector_read}
use Rattle.rkyv_btree_portable.specs.Bytes.{place_at}
use Rattle.rkyv_btree_portable.specs.Text.{text_len}
use Rattle.rkyv_btree_view.proofs.Remaining.{shorter}
use Rattle.rkyv_btree_compound.proofs.vec_iter.VecIterIterator.next.Goals as goal

pub returns-in_err-element-clause-steps : goal.returns-in_err-element-clause-steps
returns-in_err-element-clause-steps g c =
    let it = c.args.self.now in
    let none = drop_none (vector_read g.T.Portable.kind it.buf.now it.pos) it.next (sym c.in_err-element.ensures.value) in
    rw c.from_residual.ensures (none, none)

pub overflow_add-self : goal.overflow_add-self
overflow_add-self g c =
    let it = c.args.self.now in
    let s = standing g.T.Portable.kind g.met.T.Portable.laws it.buf.now it.pos it.valid in
    let inside = slice_get_within (vector_read g.T.Portable.kind it.buf.now it.pos) it.next _ (sym c.in_ok-element.ensures.value) in
    let long = read_length g.T.Portable.kind it.buf.now (text_len it.buf.now it.pos) (unsigned_abs (place_at it.buf.now it.pos)) in
    omega (arith, s.few, s.room, s.short, inside, long)

pub returns-clause-steps : goal.returns-clause-steps
returns-clause-steps g c =
    let it = c.args.self.now in
    drop_some (vector_read g.T.Portable.kind it.buf.now it.pos) it.next _ (sym c.in_ok-element.ensures.value)

pub returns-clause-goes : goal.returns-clause-goes
returns-clause-goes g c = record { on = λ _. (tt, tt, shorter _ _ _ (returns-clause-steps g c)); keeps = tt; rests = λ _. tt }
