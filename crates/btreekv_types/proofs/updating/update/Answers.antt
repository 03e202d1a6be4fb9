-- The entries after the changes are archived, or the cause is passed on.
use Rattle.std.proofs.Common.{◌≡◌, ◌∙◌, ◌++◌, [], ap, map, rules, string_bytes, subst, sym}
use Rattle.std.specs.declared.alloc.Global.{Global}
use Rattle.std.specs.List.{AllByRecursion}
use Rattle.rkyv_btree_convert.proofs.LastWins.{all_map}
use Rattle.rkyv_btree_typed.specs.TypeNames.{name_of}
use Rattle.rkyv_btree_typed.specs.TypeNames as term
use Rattle.btreekv_commands.specs.Texts.{texts_of}
use Rattle.btreekv_types.specs.Commands.{FailsToUpdate, IsBuiltOf, IsUnbuiltOf}
use Rattle.btreekv_types.specs.Natives.{IsText}
use Rattle.btreekv_types.specs.Typed.{items, items_by, spelled}
use Rattle.btreekv_types.specs.declared.command.Order.TheVariants.{Any}
use Rattle.btreekv_types.specs.declared.fault.TypedFault.TheVariants.{Program}
use Rattle.btreekv_types.proofs.Stored.{archived_are, is_value}
use Rattle.btreekv_types.proofs.ChangesTested.{read_fails, unbuilt_fails}
use Rattle.btreekv_types.proofs.Updates.{after_changes, changes_increase, key_texts, meant_changes, typed_changes}
use Rattle.btreekv_types.proofs.updating.update.Goals as goal

pub returns-in-Err-clause-err : goal.returns-in-Err-clause-err
returns-in-Err-clause-err g c = λ key_to value_to keys values maps.
    read_fails g.K.Portable.kind g.V.Portable.kind (name_of (term.map g.K.TypeName.term g.V.TypeName.term 5)) (items_by g.K.Item.IsValue (g.K.Item.spelling c.args.style) key_to) (items_by g.V.Item.IsValue (g.V.Item.spelling c.args.style) value_to)
    g.K.Native.Archive.archival g.V.Native.Archive.archival c.args.order c.args.bytes.now c.args.lines.now c.in-Err.fault (c.in-Err.ensures.err key_to value_to keys values maps)

pub returns-in-Err-tested-clause-err : goal.returns-in-Err-tested-clause-err
returns-in-Err-tested-clause-err g c = λ key_to value_to keys values maps. c.in-Err-tested.ensures.err key_to value_to keys values maps c.args.bytes.now

pub returns-in-Err-text_map-clause-err : goal.returns-in-Err-text_map-clause-err
returns-in-Err-text_map-clause-err g c = λ key_to value_to keys values maps.
    let K = g.K.Portable.kind in
    let V = g.V.Portable.kind in
    let name = name_of (term.map g.K.TypeName.term g.V.TypeName.term 5) in
    let key_items = items_by g.K.Item.IsValue (g.K.Item.spelling c.args.style) key_to in
    let value_items = items_by g.V.Item.IsValue (g.V.Item.spelling c.args.style) value_to in
    let read = c.in-Ok.ensures.ok key_to value_to keys values maps in
    let entries = read.1.0 in
    let stored = archived_are K V 5 c.args.bytes.now (λ k. g.K.Item.IsValue (key_to k)) (λ v. g.V.Item.IsValue (value_to v))
    (is_value g.met.K.Item.same_values g.met.K.Portable.laws key_to keys c.args.bytes.now c.are_bytes.ensures)
    (is_value g.met.V.Item.same_values g.met.V.Portable.laws value_to values c.args.bytes.now c.are_bytes.ensures) entries read.1.1.1 in
    let none : c.new-texts.result.items ≡ [] = search rules in
    let texts : map texts_of c.push_entries.new.texts.items ≡ spelled key_items value_items entries = read.2 ∙ (ap (λ xs. map texts_of xs ++ read.0) none ∙ read.1.3) in
    let good = subst (AllByRecursion (λ e. IsText (items g.K.Item.IsValue (g.K.Item.spelling c.args.style)) e.0)) (sym texts) (key_texts K V key_to value_to g.K.Item.IsValue (g.K.Item.spelling c.args.style) g.V.Item.IsValue (g.V.Item.spelling c.args.style) entries stored) in
    subst (FailsToUpdate K V name key_items value_items g.K.Native.Archive.archival g.V.Native.Archive.archival c.args.order c.args.bytes.now c.args.lines.now) (sym (c.in-Err-text_map.ensures.err good)) tt

pub returns-in-Err-make_changes-clause-err : goal.returns-in-Err-make_changes-clause-err
returns-in-Err-make_changes-clause-err g c = λ key_to value_to keys values maps.
    subst (FailsToUpdate g.K.Portable.kind g.V.Portable.kind (name_of (term.map g.K.TypeName.term g.V.TypeName.term 5)) (items_by g.K.Item.IsValue (g.K.Item.spelling c.args.style) key_to) (items_by g.V.Item.IsValue (g.V.Item.spelling c.args.style) value_to)
    g.K.Native.Archive.archival g.V.Native.Archive.archival c.args.order c.args.bytes.now c.args.lines.now) (sym c.in-Err-make_changes.ensures.err) tt

pub returns-in-Err-native_entries-clause-err : goal.returns-in-Err-native_entries-clause-err
returns-in-Err-native_entries-clause-err g c = λ key_to value_to keys values maps.
    let K = g.K.Portable.kind in
    let V = g.V.Portable.kind in
    let name = name_of (term.map g.K.TypeName.term g.V.TypeName.term 5) in
    let key_items = items_by g.K.Item.IsValue (g.K.Item.spelling c.args.style) key_to in
    let value_items = items_by g.V.Item.IsValue (g.V.Item.spelling c.args.style) value_to in
    let read = c.in-Ok.ensures.ok key_to value_to keys values maps in
    let entries = read.1.0 in
    let stored = archived_are K V 5 c.args.bytes.now (λ k. g.K.Item.IsValue (key_to k)) (λ v. g.V.Item.IsValue (value_to v))
    (is_value g.met.K.Item.same_values g.met.K.Portable.laws key_to keys c.args.bytes.now c.are_bytes.ensures)
    (is_value g.met.V.Item.same_values g.met.V.Portable.laws value_to values c.args.bytes.now c.are_bytes.ensures) entries read.1.1.1 in
    let none : c.new-texts.result.items ≡ [] = search rules in
    let texts : map texts_of c.push_entries.new.texts.items ≡ spelled key_items value_items entries = read.2 ∙ (ap (λ xs. map texts_of xs ++ read.0) none ∙ read.1.3) in
    let put = c.in-Ok-text_map.ensures.ok in
    let after = after_changes key_to value_to keys values g.K.Native.Ord.cmp g.met.K.Item.same_values.natively g.K.Item.IsValue (g.K.Item.spelling c.args.style) g.V.Item.IsValue (g.V.Item.spelling c.args.style) (string_bytes {Z = Global})
    (g.met.K.Item.apart c.args.style) g.met.K.ViewOrd.total (map texts_of c.push_entries.new.texts.items) put.0 entries c.args.lines.now c.in-Ok-tested.changes.items c.in-Ok-text_map.map.entries c.make_changes.new.map.entries
    put.1 texts stored read.1.2 c.in-Ok-tested.ensures.ok put.2 c.in-Ok-make_changes.ensures.ok in
    subst (FailsToUpdate K V name key_items value_items g.K.Native.Archive.archival g.V.Native.Archive.archival c.args.order c.args.bytes.now c.args.lines.now) (sym (c.in-Err-native_entries.ensures.err (all_map _ (λ e h. h.1) after.1))) tt

pub returns-in-Ok-file_of-clause-ok : goal.returns-in-Ok-file_of-clause-ok
returns-in-Ok-file_of-clause-ok g c = λ key_to value_to keys values maps.
    let K = g.K.Portable.kind in
    let V = g.V.Portable.kind in
    let name = name_of (term.map g.K.TypeName.term g.V.TypeName.term 5) in
    let key_items = items_by g.K.Item.IsValue (g.K.Item.spelling c.args.style) key_to in
    let value_items = items_by g.V.Item.IsValue (g.V.Item.spelling c.args.style) value_to in
    let read = c.in-Ok.ensures.ok key_to value_to keys values maps in
    let entries = read.1.0 in
    let stored = archived_are K V 5 c.args.bytes.now (λ k. g.K.Item.IsValue (key_to k)) (λ v. g.V.Item.IsValue (value_to v))
    (is_value g.met.K.Item.same_values g.met.K.Portable.laws key_to keys c.args.bytes.now c.are_bytes.ensures)
    (is_value g.met.V.Item.same_values g.met.V.Portable.laws value_to values c.args.bytes.now c.are_bytes.ensures) entries read.1.1.1 in
    let none : c.new-texts.result.items ≡ [] = search rules in
    let texts : map texts_of c.push_entries.new.texts.items ≡ spelled key_items value_items entries = read.2 ∙ (ap (λ xs. map texts_of xs ++ read.0) none ∙ read.1.3) in
    let put = c.in-Ok-text_map.ensures.ok in
    let after = after_changes key_to value_to keys values g.K.Native.Ord.cmp g.met.K.Item.same_values.natively g.K.Item.IsValue (g.K.Item.spelling c.args.style) g.V.Item.IsValue (g.V.Item.spelling c.args.style) (string_bytes {Z = Global})
    (g.met.K.Item.apart c.args.style) g.met.K.ViewOrd.total (map texts_of c.push_entries.new.texts.items) put.0 entries c.args.lines.now c.in-Ok-tested.changes.items c.in-Ok-text_map.map.entries c.make_changes.new.map.entries
    put.1 texts stored read.1.2 c.in-Ok-tested.ensures.ok put.2 c.in-Ok-make_changes.ensures.ok in
    let natives = c.in-Ok-native_entries.ensures.ok (all_map _ (λ e h. h.0) after.1) in
    let changes = c.in-Ok-tested.changes.items in record {
      heading = c.in-Ok.heading;
      entries = entries;
      changes = meant_changes key_to value_to keys values g.K.Native.Ord.cmp g.met.K.Item.same_values.natively g.K.Item.IsValue (g.K.Item.spelling c.args.style) g.V.Item.IsValue (g.V.Item.spelling c.args.style) (string_bytes {Z = Global}) changes;
      headed = c.in-Ok.ensures.headed;
      old = read.1.1;
      increase = read.1.2;
      typed = typed_changes key_to value_to keys values g.K.Native.Ord.cmp g.met.K.Item.same_values.natively g.K.Item.IsValue (g.K.Item.spelling c.args.style) g.V.Item.IsValue (g.V.Item.spelling c.args.style) (string_bytes {Z = Global}) c.args.lines.now changes c.in-Ok-tested.ensures.ok;
      in_order = λ is. changes_increase key_to value_to keys values g.K.Native.Ord.cmp g.met.K.Item.same_values.natively g.K.Item.IsValue (g.K.Item.spelling c.args.style) g.V.Item.IsValue (g.V.Item.spelling c.args.style) (string_bytes {Z = Global}) changes (c.in-Ok-tested.ensures.in_order is);
      new = subst (λ ts. IsBuiltOf K V name key_items value_items Any c.in-Ok.heading ts c.in-Ok-file_of.file.items) after.0 (c.in-Ok-file_of.ensures.ok key_to value_to keys values maps _ natives);
    }

pub returns-in-Err-file_of-clause-err : goal.returns-in-Err-file_of-clause-err
returns-in-Err-file_of-clause-err g c = λ key_to value_to keys values maps.
    let K = g.K.Portable.kind in
    let V = g.V.Portable.kind in
    let name = name_of (term.map g.K.TypeName.term g.V.TypeName.term 5) in
    let key_items = items_by g.K.Item.IsValue (g.K.Item.spelling c.args.style) key_to in
    let value_items = items_by g.V.Item.IsValue (g.V.Item.spelling c.args.style) value_to in
    let read = c.in-Ok.ensures.ok key_to value_to keys values maps in
    let entries = read.1.0 in
    let stored = archived_are K V 5 c.args.bytes.now (λ k. g.K.Item.IsValue (key_to k)) (λ v. g.V.Item.IsValue (value_to v))
    (is_value g.met.K.Item.same_values g.met.K.Portable.laws key_to keys c.args.bytes.now c.are_bytes.ensures)
    (is_value g.met.V.Item.same_values g.met.V.Portable.laws value_to values c.args.bytes.now c.are_bytes.ensures) entries read.1.1.1 in
    let none : c.new-texts.result.items ≡ [] = search rules in
    let texts : map texts_of c.push_entries.new.texts.items ≡ spelled key_items value_items entries = read.2 ∙ (ap (λ xs. map texts_of xs ++ read.0) none ∙ read.1.3) in
    let put = c.in-Ok-text_map.ensures.ok in
    let after = after_changes key_to value_to keys values g.K.Native.Ord.cmp g.met.K.Item.same_values.natively g.K.Item.IsValue (g.K.Item.spelling c.args.style) g.V.Item.IsValue (g.V.Item.spelling c.args.style) (string_bytes {Z = Global})
    (g.met.K.Item.apart c.args.style) g.met.K.ViewOrd.total (map texts_of c.push_entries.new.texts.items) put.0 entries c.args.lines.now c.in-Ok-tested.changes.items c.in-Ok-text_map.map.entries c.make_changes.new.map.entries
    put.1 texts stored read.1.2 c.in-Ok-tested.ensures.ok put.2 c.in-Ok-make_changes.ensures.ok in
    let natives = c.in-Ok-native_entries.ensures.ok (all_map _ (λ e h. h.0) after.1) in
    let changes = c.in-Ok-tested.changes.items in
    unbuilt_fails K V name key_items value_items g.K.Native.Archive.archival g.V.Native.Archive.archival c.args.order c.args.bytes.now c.args.lines.now c.in-Ok.heading entries
    (meant_changes key_to value_to keys values g.K.Native.Ord.cmp g.met.K.Item.same_values.natively g.K.Item.IsValue (g.K.Item.spelling c.args.style) g.V.Item.IsValue (g.V.Item.spelling c.args.style) (string_bytes {Z = Global}) changes) c.in-Ok.ensures.headed read.1.1 read.1.2
    (typed_changes key_to value_to keys values g.K.Native.Ord.cmp g.met.K.Item.same_values.natively g.K.Item.IsValue (g.K.Item.spelling c.args.style) g.V.Item.IsValue (g.V.Item.spelling c.args.style) (string_bytes {Z = Global}) c.args.lines.now changes c.in-Ok-tested.ensures.ok)
    c.in-Err-file_of.fault
    (subst (λ ts. IsUnbuiltOf K V name key_items value_items g.K.Native.Archive.archival g.V.Native.Archive.archival Any c.in-Ok.heading ts (Program c.in-Err-file_of.fault)) after.0 (c.in-Err-file_of.ensures.err key_to value_to keys values maps _ natives))
