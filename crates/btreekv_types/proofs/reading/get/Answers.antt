-- The value of the key that is found is written.
use Rattle.std.proofs.Common.{◌≡◌, ◌∙◌, ap, rules}
use Rattle.rkyv_btree_view.specs.View.{entries_of}
use Rattle.btreekv_commands.specs.Forms.{value_line}
use Rattle.btreekv_types.specs.Typed.{items_by, spelled_entry}
use Rattle.btreekv_types.proofs.Meant.{key_meant, key_text_meant}
use Rattle.btreekv_types.proofs.Shown.{compared_so, value_none, value_some}
use Rattle.btreekv_types.proofs.reading.get.Goals as goal

pub returns-in_default-clause-ok : goal.returns-in_default-clause-ok
returns-in_default-clause-ok g c = λ key_to value_to keys values maps.
    let K = g.K.Portable.kind in
    let V = g.V.Portable.kind in
    let key_items = items_by g.K.Item.IsValue (g.K.Item.spelling c.args.style) key_to in
    let value_items = items_by g.V.Item.IsValue (g.V.Item.spelling c.args.style) value_to in
    let kt : K.Value = keys.same.to (g.K.Native.Archive.archival.meaning c.in-Ok-Some.key) in
    let word : g.K.Item.spelling c.args.style (g.K.Item.native_value c.in-Ok-Some.key) ≡ c.as_str.result.now = rw c.in-Ok-Some.field-0-is at c.in-Ok-Some.ensures.text in
    let is_key : g.K.Item.IsValue (g.K.Item.native_value c.in-Ok-Some.key) = rw c.in-Ok-Some.field-0-is at c.in-Ok-Some.ensures.value in
    let found = (c.in_default.ensures.lookup (λ (n : g.row.K-Native.Denot) (k : K.Value). K.order (keys.same.to (g.K.Native.Archive.archival.meaning n)) k) (λ q w r post.
    let is : r ≡ g.K.Item.order (g.K.Item.native_value q.now) (g.K.Item.value_at w.buf.now w.pos) = search rules in
    is ∙ compared_so key_to keys q.now w.buf.now w.pos)).found in
    let moved = rw (c.in-Ok.ensures.buffer, c.in-Ok.ensures.position) at found in (
      (entries_of K V 5 c.in-Ok.map, c.in-Ok.ensures.input),
      (
        kt,
        (key_meant key_to value_to keys values g.K.Item.IsValue (g.K.Item.spelling c.args.style) g.V.Item.IsValue (g.V.Item.spelling c.args.style) c.in-Ok-Some.key is_key, key_text_meant key_to value_to keys values g.K.Item.IsValue (g.K.Item.spelling c.args.style) g.V.Item.IsValue (g.V.Item.spelling c.args.style) c.in-Ok-Some.key _ (word ∙ c.as_str.ensures.value)),
        value_none (spelled_entry key_items value_items) (value_line c.args.form) _ _ moved (search rules),
      ),
    )

pub returns-in-Ok-push_value-clause-ok : goal.returns-in-Ok-push_value-clause-ok
returns-in-Ok-push_value-clause-ok g c = λ key_to value_to keys values maps.
    let K = g.K.Portable.kind in
    let V = g.V.Portable.kind in
    let key_items = items_by g.K.Item.IsValue (g.K.Item.spelling c.args.style) key_to in
    let value_items = items_by g.V.Item.IsValue (g.V.Item.spelling c.args.style) value_to in
    let kt : K.Value = keys.same.to (g.K.Native.Archive.archival.meaning c.in-Ok-Some.key) in
    let word : g.K.Item.spelling c.args.style (g.K.Item.native_value c.in-Ok-Some.key) ≡ c.as_str.result.now = rw c.in-Ok-Some.field-0-is at c.in-Ok-Some.ensures.text in
    let is_key : g.K.Item.IsValue (g.K.Item.native_value c.in-Ok-Some.key) = rw c.in-Ok-Some.field-0-is at c.in-Ok-Some.ensures.value in
    let found = (c.in-Some.ensures.lookup (λ (n : g.row.K-Native.Denot) (k : K.Value). K.order (keys.same.to (g.K.Native.Archive.archival.meaning n)) k) (λ q w r post.
    let is : r ≡ g.K.Item.order (g.K.Item.native_value q.now) (g.K.Item.value_at w.buf.now w.pos) = search rules in
    is ∙ compared_so key_to keys q.now w.buf.now w.pos)).found in
    let moved = rw (c.in-Ok.ensures.buffer, c.in-Ok.ensures.position) at found in
    let line : c.push_value.new.out.items ≡ value_line c.args.form (g.V.Item.spelling c.args.style (g.V.Item.value_at c.in-Some.value.buf.now c.in-Some.value.pos)) = search rules in (
      (entries_of K V 5 c.in-Ok.map, c.in-Ok.ensures.input),
      (
        kt,
        (key_meant key_to value_to keys values g.K.Item.IsValue (g.K.Item.spelling c.args.style) g.V.Item.IsValue (g.V.Item.spelling c.args.style) c.in-Ok-Some.key is_key, key_text_meant key_to value_to keys values g.K.Item.IsValue (g.K.Item.spelling c.args.style) g.V.Item.IsValue (g.V.Item.spelling c.args.style) c.in-Ok-Some.key _ (word ∙ c.as_str.ensures.value)),
        value_some (spelled_entry key_items value_items) (value_line c.args.form) _ _ _ moved (line ∙ ap (λ v. value_line c.args.form (g.V.Item.spelling c.args.style v)) (values.read c.in-Some.value.buf.now c.in-Some.value.pos)),
      ),
    )
