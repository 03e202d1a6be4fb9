-- All are tested, or the first fault is passed on.
use Rattle.std.proofs.Common.{◌≡◌, ◌∙◌, List, ap, inl, inr, refl, string_bytes, subst, sym}
use Rattle.std.specs.declared.alloc.Global.{Global}
use Rattle.std.specs.List.{AllByRecursion}
use Rattle.rkyv_btree_format.specs.Increasing.{Increasing, IsOutOfOrder}
use Rattle.rkyv_btree_typed.specs.TypeNames.{name_of}
use Rattle.rkyv_btree_typed.specs.TypeNames as term
use Rattle.rkyv_btree_update.specs.Updated.{changes_meant}
use Rattle.btreekv_commands.specs.Changing.{AreChanges}
use Rattle.btreekv_types.specs.Changes.{PutsNoText, PutsText}
use Rattle.btreekv_types.specs.Commands.{FailsToUpdate}
use Rattle.btreekv_types.specs.Natives.{IsNoText, IsText}
use Rattle.btreekv_types.specs.Typed.{items, items_by}
use Rattle.btreekv_types.proofs.ChangesTested.{lines_fail, natives_typed, other_words}
use Rattle.btreekv_types.proofs.Updates.{change_out_of_order, key_text_is, no_puts_meant, puts_meant, typed_changes}
use Rattle.btreekv_types.proofs.updating.tested.Goals as goal

pub returns-in-Err-clause-err : goal.returns-in-Err-clause-err
returns-in-Err-clause-err g c = λ key_to value_to keys values maps input.
    lines_fail g.K.Portable.kind g.V.Portable.kind (name_of (term.map g.K.TypeName.term g.V.TypeName.term 5)) (items_by g.K.Item.IsValue (g.K.Item.spelling c.args.style) key_to) (items_by g.V.Item.IsValue (g.V.Item.spelling c.args.style) value_to)
    g.K.Native.Archive.archival g.V.Native.Archive.archival c.args.order input c.args.lines.now c.in-Err.fault c.in-Err.ensures.err

pub returns-in-Err-keyed-clause-err : goal.returns-in-Err-keyed-clause-err
returns-in-Err-keyed-clause-err g c = λ key_to value_to keys values maps input.
    let key_items = items_by g.K.Item.IsValue (g.K.Item.spelling c.args.style) key_to in
    let value_items = items_by g.V.Item.IsValue (g.V.Item.spelling c.args.style) value_to in
    let Failed = FailsToUpdate g.K.Portable.kind g.V.Portable.kind (name_of (term.map g.K.TypeName.term g.V.TypeName.term 5)) key_items value_items g.K.Native.Archive.archival g.V.Native.Archive.archival c.args.order input c.args.lines.now in
    let changes = changes_meant (λ k. k.now) (λ v. v.now) c.in-Ok.changes.items in
    let moved = subst (λ (xs : List _). changes_meant (λ k. k.now) (λ v. v.now) xs ≡ changes) (sym c.as_slice.ensures.value) refl in
    elim c.in-Err-keyed.ensures.err [
      | inl memory ↦ subst Failed (sym memory) tt
      | inr first ↦ subst Failed (sym first.1) (
        _,
        subst (AreChanges c.args.lines.now) (sym moved) c.in-Ok.ensures.ok,
        other_words {Good = λ e. IsText (items_by g.K.Item.IsValue (g.K.Item.spelling c.args.style) g.K.Item.native_value) e.0} {Bad = λ e. IsNoText (items g.K.Item.IsValue (g.K.Item.spelling c.args.style)) e.0} {Good2 = λ e. IsText key_items e.0} {Bad2 = λ e. IsNoText key_items e.0}
            (λ e h. key_text_is key_to value_to keys values g.K.Native.Ord.cmp g.met.K.Item.same_values.natively g.K.Item.IsValue (g.K.Item.spelling c.args.style) g.V.Item.IsValue (g.V.Item.spelling c.args.style) (string_bytes {Z = Global}) e.0 h) (λ e none v is same. none (key_to v) is same) _ first.0 first.2,
      )
    ]

pub returns-in-Err-test_values-clause-err : goal.returns-in-Err-test_values-clause-err
returns-in-Err-test_values-clause-err g c = λ key_to value_to keys values maps input.
    let key_items = items_by g.K.Item.IsValue (g.K.Item.spelling c.args.style) key_to in
    let value_items = items_by g.V.Item.IsValue (g.V.Item.spelling c.args.style) value_to in
    let Failed = FailsToUpdate g.K.Portable.kind g.V.Portable.kind (name_of (term.map g.K.TypeName.term g.V.TypeName.term 5)) key_items value_items g.K.Native.Archive.archival g.V.Native.Archive.archival c.args.order input c.args.lines.now in
    let changes = changes_meant (λ k. k.now) (λ v. v.now) c.in-Ok.changes.items in
    let moved = subst (λ (xs : List _). changes_meant (λ k. k.now) (λ v. v.now) xs ≡ changes) (sym c.as_slice-2.ensures.value) refl in
    elim c.in-Err-test_values.ensures.err [
      | inl memory ↦ subst Failed (sym memory) tt
      | inr first ↦ subst Failed (sym first.1) (
        _,
        subst (AreChanges c.args.lines.now) (sym moved) c.in-Ok.ensures.ok,
        other_words {Good = λ e. PutsText (items_by g.V.Item.IsValue (g.V.Item.spelling c.args.style) g.V.Item.native_value) e.1} {Bad = λ e. PutsNoText (items g.V.Item.IsValue (g.V.Item.spelling c.args.style)) e.1} {Good2 = λ e. PutsText value_items e.1} {Bad2 = λ e. PutsNoText value_items e.1}
            (λ e h. puts_meant key_to value_to keys values g.K.Native.Ord.cmp g.met.K.Item.same_values.natively g.K.Item.IsValue (g.K.Item.spelling c.args.style) g.V.Item.IsValue (g.V.Item.spelling c.args.style) (string_bytes {Z = Global}) e.1 h)
            (λ e h. no_puts_meant key_to value_to keys values g.K.Native.Ord.cmp g.met.K.Item.same_values.natively g.K.Item.IsValue (g.K.Item.spelling c.args.style) g.V.Item.IsValue (g.V.Item.spelling c.args.style) (string_bytes {Z = Global}) e.1 h) _ first.0 first.2,
      )
    ]

pub returns-clause-err : goal.returns-clause-err
returns-clause-err g c = λ key_to value_to keys values maps input.
    let changes = changes_meant (λ k. k.now) (λ v. v.now) c.in-Ok.changes.items in
    let same : changes_meant (λ x. g.K.Item.spelling c.args.style (g.K.Item.native_value x)) string_bytes c.in-Ok-keyed.keyed.items ≡ changes = c.in-Ok-keyed.ensures.same ∙ ap (λ (xs : List _). changes_meant (λ k. k.now) (λ v. v.now) xs) c.as_slice.ensures.value in
    let puts = subst (λ (xs : List _). AllByRecursion (λ e. PutsText (items_by g.V.Item.IsValue (g.V.Item.spelling c.args.style) g.V.Item.native_value) e.1) (changes_meant (λ k. k.now) (λ v. v.now) xs)) c.as_slice-2.ensures.value c.in-Ok-test_values.ensures.ok in
    let typed = natives_typed g.K.Item.IsValue (g.K.Item.spelling c.args.style) g.K.Item.native_value string_bytes g.V.Item.IsValue (g.V.Item.spelling c.args.style) g.V.Item.native_value c.args.lines.now c.in-Ok-keyed.keyed.items changes c.in-Ok.ensures.ok c.in-Ok-keyed.ensures.good same puts in (
      c.in-Some.ensures.ordered,
      (
        _,
        typed_changes key_to value_to keys values g.K.Native.Ord.cmp g.met.K.Item.same_values.natively g.K.Item.IsValue (g.K.Item.spelling c.args.style) g.V.Item.IsValue (g.V.Item.spelling c.args.style) (string_bytes {Z = Global}) c.args.lines.now c.in-Ok-keyed.keyed.items typed,
        change_out_of_order key_to value_to keys values g.K.Native.Ord.cmp g.met.K.Item.same_values.natively g.K.Item.IsValue (g.K.Item.spelling c.args.style) g.V.Item.IsValue (g.V.Item.spelling c.args.style) (string_bytes {Z = Global}) c.in-Ok-keyed.keyed.items c.in-Some.index
            (subst (λ (xs : List _). IsOutOfOrder g.K.Native.Ord.cmp xs c.in-Some.index) c.as_slice-3.ensures.value c.in-Some.ensures.some),
      ),
    )

pub returns-in-None-clause-ok : goal.returns-in-None-clause-ok
returns-in-None-clause-ok g c =
    let changes = changes_meant (λ k. k.now) (λ v. v.now) c.in-Ok.changes.items in
    let same : changes_meant (λ x. g.K.Item.spelling c.args.style (g.K.Item.native_value x)) string_bytes c.in-Ok-keyed.keyed.items ≡ changes = c.in-Ok-keyed.ensures.same ∙ ap (λ (xs : List _). changes_meant (λ k. k.now) (λ v. v.now) xs) c.as_slice.ensures.value in
    let puts = subst (λ (xs : List _). AllByRecursion (λ e. PutsText (items_by g.V.Item.IsValue (g.V.Item.spelling c.args.style) g.V.Item.native_value) e.1) (changes_meant (λ k. k.now) (λ v. v.now) xs)) c.as_slice-2.ensures.value c.in-Ok-test_values.ensures.ok in
    natives_typed g.K.Item.IsValue (g.K.Item.spelling c.args.style) g.K.Item.native_value string_bytes g.V.Item.IsValue (g.V.Item.spelling c.args.style) g.V.Item.native_value c.args.lines.now c.in-Ok-keyed.keyed.items changes c.in-Ok.ensures.ok c.in-Ok-keyed.ensures.good same puts

pub returns-in-None-clause-in_order : goal.returns-in-None-clause-in_order
returns-in-None-clause-in_order g c = λ is.
    subst (λ (xs : List _). Increasing g.K.Native.Ord.cmp xs) c.as_slice-3.ensures.value (c.in-None.ensures.none is)
