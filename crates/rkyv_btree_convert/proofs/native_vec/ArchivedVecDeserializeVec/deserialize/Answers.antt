-- The list has all elements, or the next one is refused.
use Rattle.std.proofs.Common.{◌∙◌, map, sym, ap}
use Rattle.std.proofs.lemmas.Result.{err_from_is_err_and}
use Rattle.rkyv_btree_compound.specs.VecLeft.{elements_left}
use Rattle.rkyv_btree_compound.specs.Vectors.{vector_read}
use Rattle.rkyv_btree_convert.proofs.VectorsMade.{come_begun, come_done, come_refused, refused_by}
use Rattle.rkyv_btree_convert.specs.laws.Vectors.{vector_by_values}
use Rattle.rkyv_btree_convert.proofs.native_vec.ArchivedVecDeserializeVec.deserialize.Goals as goal

pub returns-in_err-push_native-clause-refused : goal.returns-in_err-push_native-clause-refused
returns-in_err-push_native-clause-refused g c =
    let t = g.met.T.Deserialize.by_meaning in
    let give = t.of_value in
    let model = g.T.Deserialize.model in
    let b = c.args.view.now.buf.now in
    let at = c.args.view.now.pos in
    let element = c.in-Some.element in
    let begun = come_begun give (map model c.in-Ok.natives.items) (elements_left c.new-elements.result) (vector_read g.T.Portable.kind b at) (ap (map model) c.in-Ok.ensures.items) c.new-elements.ensures in
    let whole = vector_by_values g.T.Portable.kind t b at ∙ sym begun in
    let p = err_from_is_err_and c.from_residual.result c.from_residual.ensures.1 in
    rw (p.1, p.2) (refused_by (g.T.Deserialize.decoded element.buf.now element.pos) _ c.in_err-push_native.field-0.0
    (λ fault err. whole ∙ come_refused give (map model c.loop-element.natives.items) (elements_left c.loop-element.elements) _ _ (g.T.Deserialize.decoded element.buf.now element.pos) fault _ c.loop-element.invariant c.in-Some.ensures.steps (t.by_value element.buf.now element.pos) err)
    c.in_err-push_native.ensures.refused)

pub returns-clause-ok : goal.returns-clause-ok
returns-clause-ok g c =
    let t = g.met.T.Deserialize.by_meaning in
    let give = t.of_value in
    let model = g.T.Deserialize.model in
    let b = c.args.view.now.buf.now in
    let at = c.args.view.now.pos in
    let begun = come_begun give (map model c.in-Ok.natives.items) (elements_left c.new-elements.result) (vector_read g.T.Portable.kind b at) (ap (map model) c.in-Ok.ensures.items) c.new-elements.ensures in
    vector_by_values g.T.Portable.kind t b at ∙ (sym begun ∙ come_done give (map model c.loop-element.natives.items) (elements_left c.loop-element.elements) _ c.loop-element.invariant c.in_default-next.ensures.steps.0)
