-- The entries of the range are written.
use Rattle.std.proofs.Common.{◌≡◌, ◌∙◌, refl, string_bytes}
use Rattle.rkyv_btree_source.specs.Known.{AreOf}
use Rattle.rkyv_btree_source.specs.SourceRange.{source_of}
use Rattle.rkyv_btree_typed.specs.TypeNames.{name_of}
use Rattle.rkyv_btree_typed.specs.TypeNames as term
use Rattle.btreekv_types.specs.Commands.{IsKey}
use Rattle.btreekv_types.specs.Typed.{items_by}
use Rattle.btreekv_types.proofs.Meant.{key_meant, key_text_meant}
use Rattle.btreekv_types.proofs.Shown.{compared_so}
use Rattle.btreekv_types.proofs.SoughtParts.{writes_between}
use Rattle.btreekv_types.proofs.ranged.between_in.Goals as goal

pub returns-in-Ok-clause-ok : goal.returns-in-Ok-clause-ok
returns-in-Ok-clause-ok g c b known place = λ key_to value_to keys values maps.
    let K = g.K.Portable.kind in
    let x = c.in-Ok-Some.key in
    let y = c.in-Ok-Some-native_of.key in
    let lo : K.Value = keys.same.to (g.K.Native.Archive.archival.meaning x) in
    let hi : K.Value = keys.same.to (g.K.Native.Archive.archival.meaning y) in
    let low : g.K.Item.spelling c.args.style (g.K.Item.native_value x) ≡ c.as_str.result.now = rw c.in-Ok-Some.field-0-is at c.in-Ok-Some.ensures.text in
    let low_is : g.K.Item.IsValue (g.K.Item.native_value x) = rw c.in-Ok-Some.field-0-is at c.in-Ok-Some.ensures.value in
    let high : g.K.Item.spelling c.args.style (g.K.Item.native_value y) ≡ c.as_str-2.result.now = rw c.in-Ok-Some-native_of.field-0-is at c.in-Ok-Some-native_of.ensures.text in
    let high_is : g.K.Item.IsValue (g.K.Item.native_value y) = rw c.in-Ok-Some-native_of.field-0-is at c.in-Ok-Some-native_of.ensures.value in
    let low_key : IsKey K g.V.Portable.kind (name_of (term.map g.K.TypeName.term g.V.TypeName.term 5)) (items_by g.K.Item.IsValue (g.K.Item.spelling c.args.style) key_to) (items_by g.V.Item.IsValue (g.V.Item.spelling c.args.style) value_to) (string_bytes c.args.low.now) lo = (key_meant key_to value_to keys values g.K.Item.IsValue (g.K.Item.spelling c.args.style) g.V.Item.IsValue (g.V.Item.spelling c.args.style) x low_is, key_text_meant key_to value_to keys values g.K.Item.IsValue (g.K.Item.spelling c.args.style) g.V.Item.IsValue (g.V.Item.spelling c.args.style) x _ (low ∙ c.as_str.ensures.value)) in
    let high_key : IsKey K g.V.Portable.kind (name_of (term.map g.K.TypeName.term g.V.TypeName.term 5)) (items_by g.K.Item.IsValue (g.K.Item.spelling c.args.style) key_to) (items_by g.V.Item.IsValue (g.V.Item.spelling c.args.style) value_to) (string_bytes c.args.high.now) hi = (key_meant key_to value_to keys values g.K.Item.IsValue (g.K.Item.spelling c.args.style) g.V.Item.IsValue (g.V.Item.spelling c.args.style) y high_is, key_text_meant key_to value_to keys values g.K.Item.IsValue (g.K.Item.spelling c.args.style) g.V.Item.IsValue (g.V.Item.spelling c.args.style) y _ (high ∙ c.as_str-2.ensures.value)) in
    let there : AreOf (g.S.ReadAt.known (source_of c.range_of-entries.result).reader.source) b = rw c.range_of-entries.ensures.source known in
    let left = c.range_of-entries.ensures.left b known tt in
    writes_between _ _ _ _ _ _ _ b _ place c.args.form _ c.args.low.now c.args.high.now lo hi low_key high_key _
    (λ es is.
    let reads = left.reads es is in
    record {
      run = rw reads at left.run;
      all = rw reads at (left.within (λ n k. K.order (keys.same.to (g.K.Native.Archive.archival.meaning n.native)) k) (λ n b at. compared_so key_to keys n.native b at));
    })
    (c.in-Ok.ensures.writes b there key_to value_to keys values maps ∙ rw c.new-text.ensures.items refl)
