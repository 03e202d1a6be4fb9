-- One key more is native, or the first bad one is named.
use Rattle.std.proofs.Common.{◌≡◌, ◌∙◌, ◌++◌, ◌∷◌, [], ◌+◌, ℕ, List, arith, get_or, inr, refl, string_bytes, subst, sym, take}
use Rattle.std.proofs.lemmas.Grind.{common_steps}
use Rattle.std.specs.Borrow.{Bor}
use Rattle.std.specs.List.{AllByRecursion}
use Rattle.rkyv_btree_update.specs.Updated.{change_meant, changes_meant}
use Rattle.rkyv_btree_update.specs.declared.change.Change.{Change}
use Rattle.rkyv_btree_update.specs.declared.change.Change.TheVariants.{Put}
use Rattle.btreekv_types.specs.Natives.{IsNoText, IsText}
use Rattle.btreekv_types.specs.Typed.{items, items_by}
use Rattle.btreekv_types.proofs.ChangesTested.{all_push, first_bad_change, keyed_more, keys_good, taken_more}
use Rattle.btreekv_types.proofs.updating.keyed.Goals as goal

pub returns-in-Ok-None-clause-err : goal.returns-in-Ok-None-clause-err
returns-in-Ok-None-clause-err g c =
    let d : Bor (List ℕ) × Change (Bor (List ℕ)) = (record { ref_ptr = (0, 0); now = [] }, Put record { ref_ptr = (0, 0); now = [] }) in
    let key_items = items_by g.K.Item.IsValue (g.K.Item.spelling c.args.style) g.K.Item.native_value in
    let none : (value : g.K.Item.Value) → g.K.Item.IsValue value → g.K.Item.spelling c.args.style value ≡ (get_or c.args.changes.now c.changes.index d).0.now → ⊥ = rw c.in-Ok-None.field-0-is at c.in-Ok-None.ensures.none in
    let good = keys_good g.K.Item.IsValue (g.K.Item.spelling c.args.style) g.K.Item.native_value string_bytes c.changes.keyed.items c.changes.invariant.0 in
    inr (
      c.changes.index + 1,
      refl,
      first_bad_change (λ e. (e.0.now, change_meant (λ v. v.now) e.1)) (λ e. IsText key_items e.0) (λ e. IsNoText (items g.K.Item.IsValue (g.K.Item.spelling c.args.style)) e.0) c.args.changes.now c.changes.index d c.changes-test.true
          (subst (AllByRecursion (λ e. IsText key_items e.0)) c.changes.invariant.1 good) (λ v is same. none v is same) (c.changes.index + 1) refl,
    )

pub changes-preserved : goal.changes-preserved
changes-preserved g c =
    let d : Bor (List ℕ) × Change (Bor (List ℕ)) = (record { ref_ptr = (0, 0); now = [] }, Put record { ref_ptr = (0, 0); now = [] }) in
    let key_text : g.K.Item.spelling c.args.style (g.K.Item.native_value c.in-Ok-Some.key) ≡ (get_or c.args.changes.now c.changes.index d).0.now = rw c.in-Ok-Some.field-0-is at c.in-Ok-Some.ensures.text in
    let key_is : g.K.Item.IsValue (g.K.Item.native_value c.in-Ok-Some.key) = rw c.in-Ok-Some.field-0-is at c.in-Ok-Some.ensures.value in
    let change = c.in-Ok.change in
    let more : c.push.new.self.items ≡ c.changes.keyed.items ++ (c.in-Ok-Some.key, change) ∷ [] = grind (arith, common_steps) in
    subst (λ (xs : List _). AllByRecursion (λ e. g.K.Item.IsValue (g.K.Item.native_value e.0)) xs
    × (changes_meant (λ x. g.K.Item.spelling c.args.style (g.K.Item.native_value x)) string_bytes xs ≡ changes_meant (λ k. k.now) (λ v. v.now) (take (c.changes.index + 1) c.args.changes.now))) (sym more) (
      all_push (λ e. g.K.Item.IsValue (g.K.Item.native_value e.0)) c.changes.keyed.items (c.in-Ok-Some.key, change) c.changes.invariant.0 key_is,
      keyed_more g.K.Item.IsValue (g.K.Item.spelling c.args.style) g.K.Item.native_value string_bytes c.changes.keyed.items c.in-Ok-Some.key change _ _ _ c.changes.invariant.1 key_text c.in-Ok.ensures.ok
          ∙ sym (taken_more (λ e. (e.0.now, change_meant (λ v. v.now) e.1)) c.args.changes.now c.changes.index d c.changes-test.true),
    )
