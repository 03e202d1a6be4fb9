-- An element stands after those before it.
use Rattle.std.proofs.Common.{◌<◌, ◌∙◌, ℕ, IsTrue, Some, sym, ap, subst, arith}
use Rattle.std.specs.Int.RustNames.{unsigned_abs}
use Rattle.std.proofs.lemmas.Option.{slice_get_past}
use Rattle.rkyv_btree_compound.proofs.VectorViews.{read_length, standing, element_place, element_read}
use Rattle.rkyv_btree_compound.specs.Vectors.{vector_read}
use Rattle.rkyv_btree_portable.specs.Bytes.{place_at}
use Rattle.rkyv_btree_portable.specs.Text.{text_len}
use Rattle.rkyv_btree_portable.specs.Views.{stands}
use Rattle.rkyv_btree_compound.proofs.vector_view.ViewArchivedVecViewVec.get.Goals as goal

pub returns-then-index-num32-clause-value : goal.returns-then-index-num32-clause-value
returns-then-index-num32-clause-value g c =
    let view = c.args.self in
    let long = read_length g.T.Portable.kind view.buf.now (text_len view.buf.now view.pos) (unsigned_abs (place_at view.buf.now view.pos)) in
    sym (slice_get_past (vector_read g.T.Portable.kind view.buf.now view.pos) c.args.index (omega (arith, long, c.num32.ensures, c.if-index-num32.true)))

pub invariant_of-result : goal.invariant_of-result
invariant_of-result g c =
    let view = c.args.self in
    let s = standing g.T.Portable.kind g.met.T.Portable.laws view.buf.now view.pos view.valid in
    let inside : c.args.index < text_len view.buf.now view.pos = omega (arith, c.num32.ensures, c.if-index-num32.false) in
    let place = element_place g.T.Portable.kind view.buf.now view.pos c.args.index c.size.result c.pointed_at-start.result s c.pointed_at-start.ensures c.size.ensures in
    record { valid = subst (λ (p : ℕ). IsTrue (stands g.T.Portable.kind view.buf.now p)) (sym place) (s.each c.args.index inside) }

pub returns-clause-value : goal.returns-clause-value
returns-clause-value g c =
    let view = c.args.self in
    let s = standing g.T.Portable.kind g.met.T.Portable.laws view.buf.now view.pos view.valid in
    let inside : c.args.index < text_len view.buf.now view.pos = omega (arith, c.num32.ensures, c.if-index-num32.false) in
    let place = element_place g.T.Portable.kind view.buf.now view.pos c.args.index c.size.result c.pointed_at-start.result s c.pointed_at-start.ensures c.size.ensures in
    ap (λ (p : ℕ). Some (g.T.Portable.kind.read view.buf.now p)) place ∙ sym (element_read g.T.Portable.kind view.buf.now view.pos c.args.index s inside)
