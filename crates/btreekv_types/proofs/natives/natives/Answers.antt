-- One entry more is read, or the first bad one is named.
use Rattle.std.proofs.Common.{◌≡◌, ◌∙◌, ◌++◌, ◌∷◌, [], ◌+◌, List, get_or, map, take, string_bytes, refl, sym, subst, rules, arith}
use Rattle.std.proofs.lemmas.Grind.{common_steps}
use Rattle.btreekv_commands.specs.Texts.{texts_of}
use Rattle.btreekv_types.specs.Natives.{IsNoText, IsText}
use Rattle.btreekv_types.specs.Typed.{AreTyped, items, items_by}
use Rattle.btreekv_types.proofs.Read.{first_bad, read_more}
use Rattle.btreekv_types.proofs.natives.natives.Goals as goal

pub returns-in-Ok-None-clause-err : goal.returns-in-Ok-None-clause-err
returns-in-Ok-None-clause-err g c =
    let d = c.index-entries-index.result in
    let text : c.as_str.result.now ≡ string_bytes (get_or c.args.entries.now c.entries.index d).0 = search rules in
    let none : (value : g.K.Item.Value) → g.K.Item.IsValue value → g.K.Item.spelling c.args.style value ≡ c.as_str.result.now → ⊥ = rw c.in-Ok-None.field-0-is at c.in-Ok-None.ensures.none in
    first_bad (items_by g.K.Item.IsValue (g.K.Item.spelling c.args.style) g.K.Item.native_value) (items_by g.V.Item.IsValue (g.V.Item.spelling c.args.style) g.V.Item.native_value) c.args.entries.now c.entries.index d c.entries-test.true c.entries.natives.items c.entries.invariant
    (λ e. IsNoText (items g.K.Item.IsValue (g.K.Item.spelling c.args.style)) e.0) (c.entries.index + 1) refl (λ v is same. none v is (same ∙ sym text))

pub returns-in-Ok-None-native_of-clause-err : goal.returns-in-Ok-None-native_of-clause-err
returns-in-Ok-None-native_of-clause-err g c =
    let d = c.index-entries-index.result in
    let key_items = items_by g.K.Item.IsValue (g.K.Item.spelling c.args.style) g.K.Item.native_value in
    let text : c.as_str.result.now ≡ string_bytes (get_or c.args.entries.now c.entries.index d).0 = search rules in
    let mapped : c.as_str-in-entries.result.now ≡ string_bytes (get_or c.args.entries.now c.entries.index d).1 = search rules in
    let key_text : g.K.Item.spelling c.args.style (g.K.Item.native_value c.in-Ok-Some.key) ≡ c.as_str.result.now = rw c.in-Ok-Some.field-0-is at c.in-Ok-Some.ensures.text in
    let key_is : g.K.Item.IsValue (g.K.Item.native_value c.in-Ok-Some.key) = rw c.in-Ok-Some.field-0-is at c.in-Ok-Some.ensures.value in
    let none : (value : g.V.Item.Value) → g.V.Item.IsValue value → g.V.Item.spelling c.args.style value ≡ c.as_str-in-entries.result.now → ⊥ = rw c.in-Ok-None-native_of.field-0-is at c.in-Ok-None-native_of.ensures.none in
    first_bad key_items (items_by g.V.Item.IsValue (g.V.Item.spelling c.args.style) g.V.Item.native_value) c.args.entries.now c.entries.index d c.entries-test.true c.entries.natives.items c.entries.invariant
    (λ e. IsText key_items e.0 × IsNoText (items g.V.Item.IsValue (g.V.Item.spelling c.args.style)) e.1) (c.entries.index + 1) refl
    ((c.in-Ok-Some.key, key_is, key_text ∙ text), (λ v is same. none v is (same ∙ sym mapped)))

pub entries-preserved : goal.entries-preserved
entries-preserved g c =
    let d = c.index-entries-index.result in
    let key_items = items_by g.K.Item.IsValue (g.K.Item.spelling c.args.style) g.K.Item.native_value in
    let value_items = items_by g.V.Item.IsValue (g.V.Item.spelling c.args.style) g.V.Item.native_value in
    let text : c.as_str.result.now ≡ string_bytes (get_or c.args.entries.now c.entries.index d).0 = search rules in
    let mapped : c.as_str-in-entries.result.now ≡ string_bytes (get_or c.args.entries.now c.entries.index d).1 = search rules in
    let key_text : g.K.Item.spelling c.args.style (g.K.Item.native_value c.in-Ok-Some.key) ≡ c.as_str.result.now = rw c.in-Ok-Some.field-0-is at c.in-Ok-Some.ensures.text in
    let key_is : g.K.Item.IsValue (g.K.Item.native_value c.in-Ok-Some.key) = rw c.in-Ok-Some.field-0-is at c.in-Ok-Some.ensures.value in
    let value_text : g.V.Item.spelling c.args.style (g.V.Item.native_value c.in-Ok-Some-native_of.value) ≡ c.as_str-in-entries.result.now = rw c.in-Ok-Some-native_of.field-0-is at c.in-Ok-Some-native_of.ensures.text in
    let value_is : g.V.Item.IsValue (g.V.Item.native_value c.in-Ok-Some-native_of.value) = rw c.in-Ok-Some-native_of.field-0-is at c.in-Ok-Some-native_of.ensures.value in
    let more : c.push.new.self.items ≡ c.entries.natives.items ++ (c.in-Ok-Some.key, c.in-Ok-Some-native_of.value) ∷ [] = grind (arith, common_steps) in
    subst (λ (xs : List _). AreTyped key_items value_items (map texts_of (take (c.entries.index + 1) c.args.entries.now)) xs) (sym more)
    (read_more key_items value_items c.args.entries.now c.entries.index d c.entries-test.true c.entries.natives.items c.entries.invariant (c.in-Ok-Some.key, c.in-Ok-Some-native_of.value) key_is value_is (key_text ∙ text) (value_text ∙ mapped))
