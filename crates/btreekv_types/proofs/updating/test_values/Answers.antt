-- One change more puts a value, or the first bad one is named.
use Rattle.std.proofs.Common.{ℕ, ◌+◌, [], List, get_or, inr, refl, rules, subst, sym}
use Rattle.std.specs.Borrow.{Bor}
use Rattle.std.specs.List.{AllByRecursion}
use Rattle.rkyv_btree_update.specs.Updated.{change_meant}
use Rattle.rkyv_btree_update.specs.declared.change.Change.{Change}
use Rattle.rkyv_btree_update.specs.declared.change.Change.TheVariants.{Put}
use Rattle.btreekv_types.specs.Changes.{PutsNoText, PutsText}
use Rattle.btreekv_types.specs.Typed.{items, items_by}
use Rattle.btreekv_types.proofs.ChangesTested.{all_push, first_bad_change, taken_more}
use Rattle.btreekv_types.proofs.updating.test_values.Goals as goal

pub returns-in-Ok-false-clause-err : goal.returns-in-Ok-false-clause-err
returns-in-Ok-false-clause-err g c =
    let d : Bor (List ℕ) × Change (Bor (List ℕ)) = (record { ref_ptr = (0, 0); now = [] }, Put record { ref_ptr = (0, 0); now = [] }) in
    let value_items = items_by g.V.Item.IsValue (g.V.Item.spelling c.args.style) g.V.Item.native_value in
    inr (
      c.changes.index + 1,
      refl,
      first_bad_change (λ e. (e.0.now, change_meant (λ v. v.now) e.1)) (λ e. PutsText value_items e.1) (λ e. PutsNoText (items g.V.Item.IsValue (g.V.Item.spelling c.args.style)) e.1) c.args.changes.now c.changes.index d c.changes-test.true
          c.changes.invariant (c.in-Ok-false.ensures.no (search rules)) (c.changes.index + 1) refl,
    )

pub changes-preserved : goal.changes-preserved
changes-preserved g c =
    let d : Bor (List ℕ) × Change (Bor (List ℕ)) = (record { ref_ptr = (0, 0); now = [] }, Put record { ref_ptr = (0, 0); now = [] }) in
    let value_items = items_by g.V.Item.IsValue (g.V.Item.spelling c.args.style) g.V.Item.native_value in
    let one = get_or c.args.changes.now c.changes.index d in
    subst (AllByRecursion (λ e. PutsText value_items e.1)) (sym (taken_more (λ e. (e.0.now, change_meant (λ v. v.now) e.1)) c.args.changes.now c.changes.index d c.changes-test.true))
    (all_push (λ e. PutsText value_items e.1) _ (one.0.now, change_meant (λ v. v.now) one.1) c.changes.invariant (c.in-Ok-true.ensures.yes (search rules)))
