-- An entry that agrees leaves the test of both lists as it was.
use Rattle.std.proofs.Common.{◌≡◌, ◌∙◌, ◌&&◌, true, rules}
use Rattle.rkyv_btree_view.proofs.Agreed.{agreed}
use Rattle.rkyv_btree_view.proofs.compare_native.rest_is_same_as.Goals as goal

pub loop-key-preserved : goal.loop-key-preserved
loop-key-preserved g c = λ same_key same_value keys values.
    let key = c.in-Some.key in
    let value = c.in-Some.value in
    let native_key = c.in-Some-next.native_key.now in
    let native_value = c.in-Some-next.native_value.now in
    let key_tested = keys native_key key.buf.now key.pos in
    let value_tested = values native_value value.buf.now value.pos in
    let both : (same_key (g.K.Portable.kind.read key.buf.now key.pos) native_key && same_value (g.V.Portable.kind.read value.buf.now value.pos) native_value) ≡ true = search rules in
    agreed _ _ _ _ _ _ _ c.in-Some.ensures.steps c.in-Some-next.ensures.steps both ∙ c.loop-key.invariant same_key same_value keys values
