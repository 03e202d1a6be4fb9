-- The lines lead from the entries of the one archive to those of the other, or the cause is passed on.
use Rattle.std.proofs.Common.{◌≡◌, ◌∙◌, ◌++◌, [], ap, map, rules, subst, sym}
use Rattle.rkyv_btree_typed.specs.TypeNames.{name_of}
use Rattle.rkyv_btree_typed.specs.TypeNames as term
use Rattle.btreekv_commands.specs.Texts.{texts_of}
use Rattle.btreekv_types.specs.Commands.{FailsToDiff}
use Rattle.btreekv_types.specs.Differing.{AreKeyTexts}
use Rattle.btreekv_types.specs.Typed.{items, items_by, spelled}
use Rattle.btreekv_types.proofs.DiffTexts.{is_diff, key_texts_of, new_unread, old_unread, typed_texts}
use Rattle.btreekv_types.proofs.Stored.{archived_are, is_value}
use Rattle.btreekv_types.proofs.Updates.{key_texts}
use Rattle.btreekv_types.proofs.differing.diff.Goals as goal

pub returns-in-Err-clause-err : goal.returns-in-Err-clause-err
returns-in-Err-clause-err g c = λ key_to value_to keys values maps.
    old_unread g.K.Portable.kind g.V.Portable.kind (name_of (term.map g.K.TypeName.term g.V.TypeName.term 5)) (items_by g.K.Item.IsValue (g.K.Item.spelling c.args.style) key_to) (items_by g.V.Item.IsValue (g.V.Item.spelling c.args.style) value_to)
    c.args.bytes.now c.args.other.now c.in-Err.fault (c.in-Err.ensures.err key_to value_to keys values maps)

pub returns-in-Err-push_entries-clause-err : goal.returns-in-Err-push_entries-clause-err
returns-in-Err-push_entries-clause-err g c = λ key_to value_to keys values maps.
    let first = c.in-Ok.ensures.ok key_to value_to keys values maps in
    new_unread g.K.Portable.kind g.V.Portable.kind (name_of (term.map g.K.TypeName.term g.V.TypeName.term 5)) (items_by g.K.Item.IsValue (g.K.Item.spelling c.args.style) key_to) (items_by g.V.Item.IsValue (g.V.Item.spelling c.args.style) value_to)
    c.args.bytes.now c.args.other.now c.in-Err-push_entries.fault first.0 first.1 (c.in-Err-push_entries.ensures.err key_to value_to keys values maps)

pub returns-in-Ok-lines_of-clause-ok : goal.returns-in-Ok-lines_of-clause-ok
returns-in-Ok-lines_of-clause-ok g c = λ key_to value_to keys values maps.
    let K = g.K.Portable.kind in
    let V = g.V.Portable.kind in
    let name = name_of (term.map g.K.TypeName.term g.V.TypeName.term 5) in
    let key_items = items_by g.K.Item.IsValue (g.K.Item.spelling c.args.style) key_to in
    let value_items = items_by g.V.Item.IsValue (g.V.Item.spelling c.args.style) value_to in
    let first = c.in-Ok.ensures.ok key_to value_to keys values maps in
    let second = c.in-Ok-push_entries.ensures.ok key_to value_to keys values maps in
    let entries = first.1.0 in
    let others = second.1.0 in
    let stored = archived_are K V 5 c.args.bytes.now (λ k. g.K.Item.IsValue (key_to k)) (λ v. g.V.Item.IsValue (value_to v))
    (is_value g.met.K.Item.same_values g.met.K.Portable.laws key_to keys c.args.bytes.now c.are_bytes.ensures)
    (is_value g.met.V.Item.same_values g.met.V.Portable.laws value_to values c.args.bytes.now c.are_bytes.ensures) entries first.1.1.1 in
    let stored_too = archived_are K V 5 c.args.other.now (λ k. g.K.Item.IsValue (key_to k)) (λ v. g.V.Item.IsValue (value_to v))
    (is_value g.met.K.Item.same_values g.met.K.Portable.laws key_to keys c.args.other.now c.are_bytes-2.ensures)
    (is_value g.met.V.Item.same_values g.met.V.Portable.laws value_to values c.args.other.now c.are_bytes-2.ensures) others second.1.1.1 in
    let none : c.new-old.result.items ≡ [] = search rules in
    let none_too : c.new-new.result.items ≡ [] = search rules in
    let texts : map texts_of c.push_entries.new.texts.items ≡ spelled key_items value_items entries = first.2 ∙ (ap (λ xs. map texts_of xs ++ first.0) none ∙ first.1.3) in
    let texts_too : map texts_of c.push_entries-2.new.texts.items ≡ spelled key_items value_items others = second.2 ∙ (ap (λ xs. map texts_of xs ++ second.0) none_too ∙ second.1.3) in
    let lines = c.in-Ok-lines_of.ensures.ok (key_texts_of K V g.K.Item.order key_to value_to keys.ordered g.K.Item.IsValue (g.K.Item.spelling c.args.style) g.V.Item.IsValue (g.V.Item.spelling c.args.style) entries)
    (key_texts_of K V g.K.Item.order key_to value_to keys.ordered g.K.Item.IsValue (g.K.Item.spelling c.args.style) g.V.Item.IsValue (g.V.Item.spelling c.args.style) others)
    (typed_texts K V g.K.Item.order key_to value_to keys.ordered g.K.Item.IsValue (g.K.Item.spelling c.args.style) g.V.Item.IsValue (g.V.Item.spelling c.args.style) _ entries stored texts)
    (typed_texts K V g.K.Item.order key_to value_to keys.ordered g.K.Item.IsValue (g.K.Item.spelling c.args.style) g.V.Item.IsValue (g.V.Item.spelling c.args.style) _ others stored_too texts_too) in
    is_diff K V g.K.Item.order key_to value_to keys.ordered g.K.Item.IsValue (g.K.Item.spelling c.args.style) g.V.Item.IsValue (g.V.Item.spelling c.args.style) g.met.K.ViewOrd.total name c.args.bytes.now c.args.other.now c.into_bytes.result.items
    entries others first.1.1 first.1.2 second.1.1 second.1.2 (ap (λ v. v.items) c.into_bytes.ensures.value ∙ lines)

pub returns-in-Err-lines_of-clause-err : goal.returns-in-Err-lines_of-clause-err
returns-in-Err-lines_of-clause-err g c = λ key_to value_to keys values maps.
    let K = g.K.Portable.kind in
    let V = g.V.Portable.kind in
    let name = name_of (term.map g.K.TypeName.term g.V.TypeName.term 5) in
    let key_items = items_by g.K.Item.IsValue (g.K.Item.spelling c.args.style) key_to in
    let value_items = items_by g.V.Item.IsValue (g.V.Item.spelling c.args.style) value_to in
    let first = c.in-Ok.ensures.ok key_to value_to keys values maps in
    let second = c.in-Ok-push_entries.ensures.ok key_to value_to keys values maps in
    let entries = first.1.0 in
    let others = second.1.0 in
    let stored = archived_are K V 5 c.args.bytes.now (λ k. g.K.Item.IsValue (key_to k)) (λ v. g.V.Item.IsValue (value_to v))
    (is_value g.met.K.Item.same_values g.met.K.Portable.laws key_to keys c.args.bytes.now c.are_bytes.ensures)
    (is_value g.met.V.Item.same_values g.met.V.Portable.laws value_to values c.args.bytes.now c.are_bytes.ensures) entries first.1.1.1 in
    let stored_too = archived_are K V 5 c.args.other.now (λ k. g.K.Item.IsValue (key_to k)) (λ v. g.V.Item.IsValue (value_to v))
    (is_value g.met.K.Item.same_values g.met.K.Portable.laws key_to keys c.args.other.now c.are_bytes-2.ensures)
    (is_value g.met.V.Item.same_values g.met.V.Portable.laws value_to values c.args.other.now c.are_bytes-2.ensures) others second.1.1.1 in
    let none : c.new-old.result.items ≡ [] = search rules in
    let none_too : c.new-new.result.items ≡ [] = search rules in
    let texts : map texts_of c.push_entries.new.texts.items ≡ spelled key_items value_items entries = first.2 ∙ (ap (λ xs. map texts_of xs ++ first.0) none ∙ first.1.3) in
    let texts_too : map texts_of c.push_entries-2.new.texts.items ≡ spelled key_items value_items others = second.2 ∙ (ap (λ xs. map texts_of xs ++ second.0) none_too ∙ second.1.3) in
    let good = subst (AreKeyTexts (items g.K.Item.IsValue (g.K.Item.spelling c.args.style))) (sym texts) (key_texts K V key_to value_to g.K.Item.IsValue (g.K.Item.spelling c.args.style) g.V.Item.IsValue (g.V.Item.spelling c.args.style) entries stored) in
    let good_too = subst (AreKeyTexts (items g.K.Item.IsValue (g.K.Item.spelling c.args.style))) (sym texts_too) (key_texts K V key_to value_to g.K.Item.IsValue (g.K.Item.spelling c.args.style) g.V.Item.IsValue (g.V.Item.spelling c.args.style) others stored_too) in
    subst (FailsToDiff K V name key_items value_items c.args.bytes.now c.args.other.now) (sym (c.in-Err-lines_of.ensures.err (good, good_too))) tt
