-- One value more is native, or it is no text of the type.
use Rattle.std.proofs.Common.{◌≡◌, ◌∙◌, ◌++◌, ◌∷◌, [], ap, append_assoc, arith, map, refl, rules, string_bytes, subst, sym}
use Rattle.std.proofs.lemmas.Grind.{common_steps}
use Rattle.std.proofs.lemmas.List.{map_push}
use Rattle.std.specs.List.{AllByRecursion}
use Rattle.btreekv_types.specs.Natives.{IsText}
use Rattle.btreekv_types.specs.Typed.{AreTyped, items, items_by}
use Rattle.btreekv_types.proofs.ChangesTested.{all_front, typed_more}
use Rattle.btreekv_types.proofs.Updates.{one_of}
use Rattle.btreekv_types.proofs.updating.native_entries.Goals as goal

pub returns-in-Ok-None-clause-err : goal.returns-in-Ok-None-clause-err
returns-in-Ok-None-clause-err g c =
    let value_items = items g.V.Item.IsValue (g.V.Item.spelling c.args.style) in
    let none : (value : g.V.Item.Value) → g.V.Item.IsValue value → g.V.Item.spelling c.args.style value ≡ c.as_str.result.now → ⊥ = rw c.in-Ok-None.field-0-is at c.in-Ok-None.ensures.none in
    let text : c.as_str.result.now ≡ string_bytes c.in-Some.text = search rules in
    let parts = c.loop-key.invariant.0 ∙ ap (λ rest. c.loop-key.yielded ++ rest) c.in-Some.ensures.steps in
    λ good.
    let one = one_of (λ e. IsText value_items (string_bytes e.1)) c.loop-key.yielded (c.in-Some.key, c.in-Some.text) c.next.new.self (subst (AllByRecursion (λ e. IsText value_items (string_bytes e.1))) parts good) in
    absurd (none one.0 one.1 (one.2 ∙ sym text))

pub loop-key-preserved : goal.loop-key-preserved
loop-key-preserved g c =
    let key_items = items_by g.K.Item.IsValue (g.K.Item.spelling c.args.style) g.K.Item.native_value in
    let value_items = items_by g.V.Item.IsValue (g.V.Item.spelling c.args.style) g.V.Item.native_value in
    let one : _ × _ = (c.in-Some.key, c.in-Some.text) in
    let value_text : g.V.Item.spelling c.args.style (g.V.Item.native_value c.in-Ok-Some.value) ≡ c.as_str.result.now = rw c.in-Ok-Some.field-0-is at c.in-Ok-Some.ensures.text in
    let text : c.as_str.result.now ≡ string_bytes c.in-Some.text = search rules in
    let value_is : g.V.Item.IsValue (g.V.Item.native_value c.in-Ok-Some.value) = rw c.in-Ok-Some.field-0-is at c.in-Ok-Some.ensures.value in
    let parts = c.loop-key.invariant.0 ∙ ap (λ rest. c.loop-key.yielded ++ rest) c.in-Some.ensures.steps in
    let more : c.push.new.self.items ≡ c.loop-key.natives.items ++ (c.in-Some.key, c.in-Ok-Some.value) ∷ [] = grind (arith, common_steps) in (
      parts ∙ sym (append_assoc c.loop-key.yielded (one ∷ []) c.next.new.self),
      λ good.
          subst (λ ts. AreTyped key_items value_items ts c.push.new.self.items) (sym (map_push (λ e. (g.K.Item.spelling c.args.style (g.K.Item.native_value e.0), string_bytes e.1)) c.loop-key.yielded one))
          (subst (AreTyped key_items value_items (map (λ e. (g.K.Item.spelling c.args.style (g.K.Item.native_value e.0), string_bytes e.1)) c.loop-key.yielded ++ (g.K.Item.spelling c.args.style (g.K.Item.native_value c.in-Some.key), string_bytes c.in-Some.text) ∷ [])) (sym more)
          (typed_more key_items value_items _ c.loop-key.natives.items (c.loop-key.invariant.1 (all_front _ c.loop-key.yielded (one ∷ []) good)) (c.in-Some.key, c.in-Ok-Some.value) (one_of _ c.loop-key.yielded one [] good) value_is
          (g.K.Item.spelling c.args.style (g.K.Item.native_value c.in-Some.key), string_bytes c.in-Some.text) refl (value_text ∙ text))),
    )
