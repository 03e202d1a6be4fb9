-- The list has all elements, or the next one is refused.
use Rattle.std.proofs.Common.{◌≡◌, ◌+◌, ◌*◌, ◌≤◌, ◌∙◌, Ok, length, map, sym, ap, arith}
use Rattle.std.proofs.lemmas.List.{length-map, length_push}
use Rattle.std.proofs.lemmas.Result.{err_from_is_err_and}
use Rattle.rkyv_btree_compound.proofs.ArrayElements.{rest_read, rest_begin, row_step, row_end}
use Rattle.rkyv_btree_compound.specs.Elements.{elements_read}
use Rattle.rkyv_btree_convert.proofs.VectorsMade.{come_begun, come_done, come_refused, come_taken, refused_by}
use Rattle.rkyv_btree_convert.specs.laws.Arrays.{array_by_values}
use Rattle.rkyv_btree_convert.proofs.native_array.ArchivedArrayDeserializeArray.deserialize.Goals as goal

pub loop-i-init : goal.loop-i-init
loop-i-init g c =
    let give = g.met.T.Deserialize.by_meaning.of_value in
    let T = g.T.Portable.kind in
    let b = c.args.view.now.buf.now in
    let at = c.args.view.now.pos in
    record {
      so_far = come_begun give (map g.T.Deserialize.model c.in-Ok.natives.items) (rest_read T b g.row.N at 0) (elements_read T b g.row.N at) (ap (map g.T.Deserialize.model) c.in-Ok.ensures.items) (rest_begin T b g.row.N at);
      count = ap length c.in-Ok.ensures.items;
      within = omega arith;
    }

pub returns-in_err-push_native-clause-refused : goal.returns-in_err-push_native-clause-refused
returns-in_err-push_native-clause-refused g c =
    let t = g.met.T.Deserialize.by_meaning in
    let T = g.T.Portable.kind in
    let b = c.args.view.now.buf.now in
    let at = c.args.view.now.pos in
    let i = c.loop-i.i in
    let element = c.element.result in
    let read : T.read element.buf.now element.pos ≡ T.read b (at + i * T.size) = let x = c.element.ensures.buffer in let y = c.element.ensures.position in cc in
    let whole = array_by_values T g.row.N t b at in
    let p = err_from_is_err_and c.from_residual.result c.from_residual.ensures.1 in
    rw (p.1, p.2) (refused_by (g.T.Deserialize.decoded element.buf.now element.pos) _ c.in_err-push_native.field-0.0
    (λ fault err. whole ∙ come_refused t.of_value (map g.T.Deserialize.model c.loop-i.natives.items) (rest_read T b g.row.N at i) (rest_read T b g.row.N at (i + 1)) (T.read b (at + i * T.size)) (g.T.Deserialize.decoded element.buf.now element.pos) fault _ c.loop-i.invariant.so_far (row_step T b g.row.N i at c.loop-i-test.true) (t.by_value element.buf.now element.pos ∙ ap t.of_value read) err)
    c.in_err-push_native.ensures.refused)

pub loop-i-preserved : goal.loop-i-preserved
loop-i-preserved g c =
    let t = g.met.T.Deserialize.by_meaning in
    let T = g.T.Portable.kind in
    let model = g.T.Deserialize.model in
    let b = c.args.view.now.buf.now in
    let at = c.args.view.now.pos in
    let i = c.loop-i.i in
    let element = c.element.result in
    let read : T.read element.buf.now element.pos ≡ T.read b (at + i * T.size) = let x = c.element.ensures.buffer in let y = c.element.ensures.position in cc in
    let ok = c.in_ok-push_native.ensures.ok in
    record {
      so_far = come_taken t.of_value (map model c.loop-i.natives.items) (map model c.push_native.new.natives.items) (rest_read T b g.row.N at i) (rest_read T b g.row.N at (i + 1)) (T.read b (at + i * T.size)) (g.T.Deserialize.decoded element.buf.now element.pos) ok.0 _ c.loop-i.invariant.so_far (row_step T b g.row.N i at c.loop-i-test.true) (t.by_value element.buf.now element.pos ∙ ap t.of_value read) ok.1 ok.2;
      count = sym (length-map c.push_native.new.natives.items model) ∙ (ap length ok.2 ∙ (length_push (map model c.loop-i.natives.items) ok.0 ∙ ap (λ n. n + 1) (length-map c.loop-i.natives.items model ∙ c.loop-i.invariant.count)));
      within = omega (arith, c.loop-i-test.true);
    }

pub returns-clause-ok : goal.returns-clause-ok
returns-clause-ok g c =
    let t = g.met.T.Deserialize.by_meaning in
    let T = g.T.Portable.kind in
    let model = g.T.Deserialize.model in
    let b = c.args.view.now.buf.now in
    let at = c.args.view.now.pos in
    let over : g.row.N ≤ c.loop-i.i = omega (arith, c.loop-i-test.false) in
    let done = come_done t.of_value (map model c.loop-i.natives.items) (rest_read T b g.row.N at c.loop-i.i) _ c.loop-i.invariant.so_far (row_end T b g.row.N c.loop-i.i at over) in
    array_by_values T g.row.N t b at ∙ (done ∙ ap (λ xs. Ok (map model xs)) (sym c.in-Ok-try_from.ensures.0))
