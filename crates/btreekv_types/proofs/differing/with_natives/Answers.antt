-- One entry more has its native key, or its key is no text of the type.
use Rattle.std.proofs.Common.{◌≡◌, ◌∙◌, ◌++◌, ◌∷◌, [], ap, append_assoc, arith, map, refl, rules, string_bytes, subst, sym}
use Rattle.std.proofs.lemmas.Grind.{common_steps}
use Rattle.std.proofs.lemmas.List.{map_push}
use Rattle.std.specs.List.{AllByRecursion}
use Rattle.btreekv_commands.specs.Texts.{texts_of}
use Rattle.btreekv_types.specs.Natives.{IsText}
use Rattle.btreekv_types.specs.Typed.{AreTyped, items}
use Rattle.btreekv_types.specs.mirror.Differing.{keyed}
use Rattle.btreekv_types.proofs.ChangesTested.{typed_more}
use Rattle.btreekv_types.proofs.Updates.{all_unmapped, one_of}
use Rattle.btreekv_types.proofs.differing.with_natives.Goals as goal

pub returns-in-Ok-None-clause-err : goal.returns-in-Ok-None-clause-err
returns-in-Ok-None-clause-err g c =
    let key_items = items g.K.Item.IsValue (g.K.Item.spelling c.args.style) in
    let text : c.as_str.result.now ≡ string_bytes c.in-Some.key = search rules in
    let none : (value : g.K.Item.Value) → g.K.Item.IsValue value → g.K.Item.spelling c.args.style value ≡ c.as_str.result.now → ⊥ = rw c.in-Ok-None.field-0-is at c.in-Ok-None.ensures.none in
    let parts = c.loop-key.invariant.0 ∙ ap (λ rest. c.loop-key.yielded ++ rest) c.in-Some.ensures.steps.0 in
    λ good.
    let all = all_unmapped (λ e. IsText key_items e.0) texts_of c.args.entries.items good in
    let one = one_of (λ e. IsText key_items (texts_of e).0) c.loop-key.yielded (c.in-Some.key, c.in-Some.text) c.next.new.self.rest.items (subst (AllByRecursion (λ e. IsText key_items (texts_of e).0)) parts all) in
    absurd (none one.0 one.1 (one.2 ∙ sym text))

pub loop-key-init : goal.loop-key-init
loop-key-init g c =
    let none : c.new-found.result.items ≡ [] = search rules in
    let typed = AreTyped (keyed g.K.Item.IsValue (g.K.Item.spelling c.args.style) g.K.Item.native_value) (items (λ text. Unit {0}) string_bytes) in
    (search rules, subst (typed []) (sym none) (record { good = λ k d inside. absurd (omega (arith, inside)); texts_are = refl }))

pub loop-key-preserved : goal.loop-key-preserved
loop-key-preserved g c =
    let key_items = keyed g.K.Item.IsValue (g.K.Item.spelling c.args.style) g.K.Item.native_value in
    let text : c.as_str.result.now ≡ string_bytes c.in-Some.key = search rules in
    let key_text : g.K.Item.spelling c.args.style (g.K.Item.native_value c.in-Ok-Some.native) ≡ c.as_str.result.now = rw c.in-Ok-Some.field-0-is at c.in-Ok-Some.ensures.text in
    let key_is : g.K.Item.IsValue (g.K.Item.native_value c.in-Ok-Some.native) = rw c.in-Ok-Some.field-0-is at c.in-Ok-Some.ensures.value in
    let parts = c.loop-key.invariant.0 ∙ ap (λ rest. c.loop-key.yielded ++ rest) c.in-Some.ensures.steps.0 in
    let more : c.push.new.self.items ≡ c.loop-key.found.items ++ ((c.in-Ok-Some.native, c.in-Some.key), c.in-Some.text) ∷ [] = grind (arith, common_steps) in (
      parts ∙ sym (append_assoc c.loop-key.yielded ((c.in-Some.key, c.in-Some.text) ∷ []) c.next.new.self.rest.items),
      subst (λ ts. AreTyped key_items (items (λ text. Unit {0}) string_bytes) ts c.push.new.self.items) (sym (map_push texts_of c.loop-key.yielded (c.in-Some.key, c.in-Some.text)))
          (subst (AreTyped key_items (items (λ text. Unit {0}) string_bytes) (map texts_of c.loop-key.yielded ++ (string_bytes c.in-Some.key, string_bytes c.in-Some.text) ∷ [])) (sym more)
          (typed_more key_items (items (λ text. Unit {0}) string_bytes) (map texts_of c.loop-key.yielded) c.loop-key.found.items c.loop-key.invariant.1 ((c.in-Ok-Some.native, c.in-Some.key), c.in-Some.text) (key_is, key_text ∙ text) tt (string_bytes c.in-Some.key, string_bytes c.in-Some.text) refl refl)),
    )
