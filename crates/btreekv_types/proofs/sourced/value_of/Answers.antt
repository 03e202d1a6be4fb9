-- The search in the lent buffer is that of the bytes, where they are known.
use Rattle.std.proofs.Common.{◌≡◌, ◌∙◌, None, Some, ap, refl, subst, sym}
use Rattle.std.specs.Option.{option_map}
use Rattle.rkyv_btree_source.specs.Known.{AreOf}
use Rattle.rkyv_btree_view.specs.View.{view_value}
use Rattle.btreekv_types.proofs.Meant.{key_meant, key_text_meant}
use Rattle.btreekv_types.proofs.Shown.{compared_so}
use Rattle.btreekv_types.proofs.SoughtWords.{fails_to_search, finds_text}
use Rattle.btreekv_types.proofs.sourced.value_of.Goals as goal

pub returns-in-Ok-None-get_by-clause-ok : goal.returns-in-Ok-None-get_by-clause-ok
returns-in-Ok-None-get_by-clause-ok g c b known place = λ key_to value_to keys values maps.
    let K = g.K.Portable.kind in
    let x = c.in-Ok-Some.key in
    let kt : K.Value = keys.same.to (g.K.Native.Archive.archival.meaning x) in
    let word : g.K.Item.spelling c.args.style (g.K.Item.native_value x) ≡ c.args.word.now = rw c.in-Ok-Some.field-0-is at c.in-Ok-Some.ensures.text in
    let is : g.K.Item.IsValue (g.K.Item.native_value x) = rw c.in-Ok-Some.field-0-is at c.in-Ok-Some.ensures.value in
    let is_key = key_meant key_to value_to keys values g.K.Item.IsValue (g.K.Item.spelling c.args.style) g.V.Item.IsValue (g.V.Item.spelling c.args.style) x is in
    let is_text = key_text_meant key_to value_to keys values g.K.Item.IsValue (g.K.Item.spelling c.args.style) g.V.Item.IsValue (g.V.Item.spelling c.args.style) x _ word in
    let reads = c.in-Ok-None-get_by.ensures.same_as b (subst (λ k. AreOf k b) (sym c.longer.invariant.0) known) in
    finds_text _ _ _ _ _ _ _ b _ (c.longer.invariant.1 ∙ place) _ kt (is_key, is_text) c.maps_are_searched.ensures None (option_map view_value c.in-Ok-None-get_by.field-0) (rw c.in-Ok-None-get_by.field-0-is refl)
    (λ m map up. reads.sorted m map up (λ n k. K.order (keys.same.to (g.K.Native.Archive.archival.meaning n.native)) k) (λ n b at. compared_so key_to keys n.native b at))
    (reads.places (λ n k. K.order (keys.same.to (g.K.Native.Archive.archival.meaning n.native)) k) (λ n b at. compared_so key_to keys n.native b at))

pub returns-in-Ok-clause-ok : goal.returns-in-Ok-clause-ok
returns-in-Ok-clause-ok g c b known place = λ key_to value_to keys values maps.
    let K = g.K.Portable.kind in
    let x = c.in-Ok-Some.key in
    let kt : K.Value = keys.same.to (g.K.Native.Archive.archival.meaning x) in
    let word : g.K.Item.spelling c.args.style (g.K.Item.native_value x) ≡ c.args.word.now = rw c.in-Ok-Some.field-0-is at c.in-Ok-Some.ensures.text in
    let is : g.K.Item.IsValue (g.K.Item.native_value x) = rw c.in-Ok-Some.field-0-is at c.in-Ok-Some.ensures.value in
    let is_key = key_meant key_to value_to keys values g.K.Item.IsValue (g.K.Item.spelling c.args.style) g.V.Item.IsValue (g.V.Item.spelling c.args.style) x is in
    let is_text = key_text_meant key_to value_to keys values g.K.Item.IsValue (g.K.Item.spelling c.args.style) g.V.Item.IsValue (g.V.Item.spelling c.args.style) x _ word in
    let reads = c.in-Ok-Some-get_by.ensures.same_as b (subst (λ k. AreOf k b) (sym c.longer.invariant.0) known) in
    finds_text _ _ _ _ _ _ _ b _ (c.longer.invariant.1 ∙ place) _ kt (is_key, is_text) c.maps_are_searched.ensures _ (option_map view_value c.in-Ok-Some-get_by.field-0)
    (rw c.in-Ok-Some-get_by.field-0-is (ap Some (c.in-Ok.ensures.ok ∙ ap (g.V.Item.spelling c.args.style) (values.read c.in-Ok-Some-get_by.value.buf.now c.in-Ok-Some-get_by.value.pos))))
    (λ m map up. reads.sorted m map up (λ n k. K.order (keys.same.to (g.K.Native.Archive.archival.meaning n.native)) k) (λ n b at. compared_so key_to keys n.native b at))
    (reads.places (λ n k. K.order (keys.same.to (g.K.Native.Archive.archival.meaning n.native)) k) (λ n b at. compared_so key_to keys n.native b at))

pub returns-in-Err-lengthen-clause-err : goal.returns-in-Err-lengthen-clause-err
returns-in-Err-lengthen-clause-err g c b known place = λ key_to value_to keys values maps.
    let K = g.K.Portable.kind in
    let x = c.in-Ok-Some.key in
    let kt : K.Value = keys.same.to (g.K.Native.Archive.archival.meaning x) in
    let word : g.K.Item.spelling c.args.style (g.K.Item.native_value x) ≡ c.args.word.now = rw c.in-Ok-Some.field-0-is at c.in-Ok-Some.ensures.text in
    let is : g.K.Item.IsValue (g.K.Item.native_value x) = rw c.in-Ok-Some.field-0-is at c.in-Ok-Some.ensures.value in
    let is_key = key_meant key_to value_to keys values g.K.Item.IsValue (g.K.Item.spelling c.args.style) g.V.Item.IsValue (g.V.Item.spelling c.args.style) x is in
    let is_text = key_text_meant key_to value_to keys values g.K.Item.IsValue (g.K.Item.spelling c.args.style) g.V.Item.IsValue (g.V.Item.spelling c.args.style) x _ word in
    let reads = (c.in-Err-get_by.ensures.same_as b (subst (λ k. AreOf k b) (sym c.longer.invariant.0) known)).refuses in
    rw c.in-Err-lengthen.ensures.err
    (fails_to_search _ _ _ _ _ _ _ b _ (c.longer.invariant.1 ∙ place) _ kt (is_key, is_text) c.in-Err-get_by.fault
    (reads.refused (λ n k. K.order (keys.same.to (g.K.Native.Archive.archival.meaning n.native)) k) (λ n b at. compared_so key_to keys n.native b at)) reads.accepts)
