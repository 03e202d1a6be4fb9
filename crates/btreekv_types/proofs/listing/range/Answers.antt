-- The entries of the range are written.
use Rattle.std.proofs.Common.{◌≡◌, ◌∙◌, ap, map, refl, rules, subst}
use Rattle.std.specs.Io.KnownBytes.{Appends}
use Rattle.std.specs.declared.ops.Bound.TheVariants.{Included}
use Rattle.rkyv_btree_typed.specs.TypeNames.{name_of}
use Rattle.rkyv_btree_typed.specs.TypeNames as term
use Rattle.rkyv_btree_view.specs.Range.{range_left}
use Rattle.rkyv_btree_view.specs.View.{entries_of}
use Rattle.rkyv_btree_walk.specs.Bounds.{IsWithin}
use Rattle.btreekv_commands.specs.Forms.{text_in}
use Rattle.btreekv_types.specs.Typed.{items_by, spelled_entry}
use Rattle.btreekv_types.specs.declared.command.TypedCommand.TheVariants.{Range}
use Rattle.btreekv_types.proofs.Meant.{key_meant, key_text_meant}
use Rattle.btreekv_types.proofs.Shown.{all_shown, compared_so}
use Rattle.btreekv_types.proofs.Streams.{streamed}
use Rattle.btreekv_types.proofs.listing.range.Goals as goal

pub returns : goal.returns
returns g c = λ key_to value_to keys values maps.
    let K = g.K.Portable.kind in
    let V = g.V.Portable.kind in
    let key_items = items_by g.K.Item.IsValue (g.K.Item.spelling c.args.style) key_to in
    let value_items = items_by g.V.Item.IsValue (g.V.Item.spelling c.args.style) value_to in
    let r = c.range_with-entries in
    let lo : K.Value = keys.same.to (g.K.Native.Archive.archival.meaning c.in-Ok-Some.key) in
    let hi : K.Value = keys.same.to (g.K.Native.Archive.archival.meaning c.in-Ok-Some-native_of.key) in
    let low : g.K.Item.spelling c.args.style (g.K.Item.native_value c.in-Ok-Some.key) ≡ c.as_str.result.now = rw c.in-Ok-Some.field-0-is at c.in-Ok-Some.ensures.text in
    let low_is : g.K.Item.IsValue (g.K.Item.native_value c.in-Ok-Some.key) = rw c.in-Ok-Some.field-0-is at c.in-Ok-Some.ensures.value in
    let high : g.K.Item.spelling c.args.style (g.K.Item.native_value c.in-Ok-Some-native_of.key) ≡ c.as_str-2.result.now = rw c.in-Ok-Some-native_of.field-0-is at c.in-Ok-Some-native_of.ensures.text in
    let high_is : g.K.Item.IsValue (g.K.Item.native_value c.in-Ok-Some-native_of.key) = rw c.in-Ok-Some-native_of.field-0-is at c.in-Ok-Some-native_of.ensures.value in
    let within : IsWithin (Included (K.order lo)) (Included (K.order hi)) (entries_of K V 5 c.in-Ok.map) (range_left r.result) = r.ensures.within (λ (n : g.row.K-Native.Denot) (k : K.Value). K.order (keys.same.to (g.K.Native.Archive.archival.meaning n)) k) (λ q w res post.
    let is : res ≡ g.K.Item.order (g.K.Item.native_value q.now) (g.K.Item.value_at w.buf.now w.pos) = search rules in
    is ∙ compared_so key_to keys q.now w.buf.now w.pos) in
    streamed K V (name_of (term.map g.K.TypeName.term g.V.TypeName.term 5)) key_items value_items g.K.Native.Archive.archival g.V.Native.Archive.archival c.args.archive.now (Range c.args.low.now c.args.high.now c.args.form) _ _
    (text_in c.args.form (map (spelled_entry key_items value_items) (range_left r.result))) (
      refl,
      (
        entries_of K V 5 c.in-Ok.map,
        range_left r.result,
        lo,
        hi,
        c.in-Ok.ensures.input,
        (key_meant key_to value_to keys values g.K.Item.IsValue (g.K.Item.spelling c.args.style) g.V.Item.IsValue (g.V.Item.spelling c.args.style) c.in-Ok-Some.key low_is, key_text_meant key_to value_to keys values g.K.Item.IsValue (g.K.Item.spelling c.args.style) g.V.Item.IsValue (g.V.Item.spelling c.args.style) c.in-Ok-Some.key _ (low ∙ c.as_str.ensures.value)),
        (key_meant key_to value_to keys values g.K.Item.IsValue (g.K.Item.spelling c.args.style) g.V.Item.IsValue (g.V.Item.spelling c.args.style) c.in-Ok-Some-native_of.key high_is, key_text_meant key_to value_to keys values g.K.Item.IsValue (g.K.Item.spelling c.args.style) g.V.Item.IsValue (g.V.Item.spelling c.args.style) c.in-Ok-Some-native_of.key _ (high ∙ c.as_str-2.ensures.value)),
        record { run = r.ensures.range.run; all = within },
        refl,
      ),
    )
    (λ shows. subst (Appends _ _) (ap (text_in c.args.form) (all_shown (g.K.Item.spelling c.args.style) g.K.Item.value_at key_to (g.V.Item.spelling c.args.style) g.V.Item.value_at value_to keys.read values.read g.K.Item.IsValue g.V.Item.IsValue shows.0 ∙ ap (map (spelled_entry key_items value_items)) (r.ensures.range.yields shows.0 shows.1))) shows.2)
    c.write_list.result c.write_list.ensures.ok c.write_list.ensures.err
