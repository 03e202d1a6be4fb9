-- The entries of all files are archived, or the cause is passed on.
use Rattle.std.proofs.Common.{◌≡◌, ◌∙◌, ◌++◌, ◌∷◌, [], List, ap, map, refl, rules, subst}
use Rattle.std.proofs.lemmas.Result.{IfOk-weaker, IfErr-weaker}
use Rattle.std.specs.Prelude.{flat_map}
use Rattle.rkyv_btree_typed.specs.TypeNames.{name_of}
use Rattle.rkyv_btree_typed.specs.TypeNames as term
use Rattle.btreekv_commands.specs.Lines.{Entry}
use Rattle.btreekv_commands.specs.Texts.{texts_of}
use Rattle.btreekv_types.specs.Commands.{IsBuiltOf, IsUnbuiltOf}
use Rattle.btreekv_types.specs.Typed.{items_by}
use Rattle.btreekv_types.specs.declared.command.Order.TheVariants.{Any}
use Rattle.btreekv_types.proofs.Changed.{other_unread, unbuilt_merge}
use Rattle.btreekv_types.proofs.changing.merge.Goals as goal

pub returns-in-Err-clause-err : goal.returns-in-Err-clause-err
returns-in-Err-clause-err g c = λ key_to value_to keys values maps. record {
  front = [];
  file = c.args.bytes.now;
  back = map (λ file. file.items) c.args.others.now;
  parts = refl;
  number = refl;
  lists = [];
  before = tt;
  unread = c.in-Err.ensures.err key_to value_to keys values maps;
}

pub returns-in-Err-push_others-clause-err : goal.returns-in-Err-push_others-clause-err
returns-in-Err-push_others-clause-err g c = λ key_to value_to keys values maps.
    let first = c.in-Ok.ensures.ok key_to value_to keys values maps in
    other_unread g.K.Portable.kind g.V.Portable.kind (name_of (term.map g.K.TypeName.term g.V.TypeName.term 5)) (items_by g.K.Item.IsValue (g.K.Item.spelling c.args.style) key_to) (items_by g.V.Item.IsValue (g.V.Item.spelling c.args.style) value_to)
    c.args.bytes.now (map (λ file. file.items) c.args.others.now) first.0 first.1 g.K.Native.Archive.archival g.V.Native.Archive.archival c.in-Err-push_others.fault (c.in-Err-push_others.ensures.err key_to value_to keys values maps)

pub returns-clause-ok : goal.returns-clause-ok
returns-clause-ok g c =
    IfOk-weaker c.archive.result _ _ (λ file h key_to value_to keys values maps.
    let first = c.in-Ok.ensures.ok key_to value_to keys values maps in
    let more = c.in-Ok-push_others.ensures.ok key_to value_to keys values maps in
    let none : c.new-texts.result.items ≡ [] = search rules in
    let all : map texts_of c.as_slice.result.now ≡ flat_map (λ texts. texts) (first.0 ∷ more.0) =
    ap (map texts_of) c.as_slice.ensures.value ∙ (more.2 ∙ ap (λ (es : List Entry). es ++ flat_map (λ texts. texts) more.0) (first.2 ∙ ap (λ xs. map texts_of xs ++ first.0) none)) in (
      c.in-Ok.heading,
      first.0 ∷ more.0,
      c.in-Ok.ensures.headed,
      (first.1, more.1),
      subst (λ es. IsBuiltOf g.K.Portable.kind g.V.Portable.kind (name_of (term.map g.K.TypeName.term g.V.TypeName.term 5)) (items_by g.K.Item.IsValue (g.K.Item.spelling c.args.style) key_to) (items_by g.V.Item.IsValue (g.V.Item.spelling c.args.style) value_to) Any c.in-Ok.heading es file.items)
          all (h key_to value_to keys values maps),
    )) c.archive.ensures.ok

pub returns-clause-err : goal.returns-clause-err
returns-clause-err g c =
    IfErr-weaker c.archive.result _ _ (λ fault h key_to value_to keys values maps.
    let first = c.in-Ok.ensures.ok key_to value_to keys values maps in
    let more = c.in-Ok-push_others.ensures.ok key_to value_to keys values maps in
    let none : c.new-texts.result.items ≡ [] = search rules in
    let name = name_of (term.map g.K.TypeName.term g.V.TypeName.term 5) in
    let key_items = items_by g.K.Item.IsValue (g.K.Item.spelling c.args.style) key_to in
    let value_items = items_by g.V.Item.IsValue (g.V.Item.spelling c.args.style) value_to in
    let all : map texts_of c.as_slice.result.now ≡ flat_map (λ texts. texts) (first.0 ∷ more.0) =
    ap (map texts_of) c.as_slice.ensures.value ∙ (more.2 ∙ ap (λ (es : List Entry). es ++ flat_map (λ texts. texts) more.0) (first.2 ∙ ap (λ xs. map texts_of xs ++ first.0) none)) in
    unbuilt_merge g.K.Portable.kind g.V.Portable.kind name key_items value_items c.args.bytes.now (map (λ file. file.items) c.args.others.now) g.K.Native.Archive.archival g.V.Native.Archive.archival c.in-Ok.heading (first.0 ∷ more.0) c.in-Ok.ensures.headed (first.1, more.1) fault
    (subst (λ es. IsUnbuiltOf g.K.Portable.kind g.V.Portable.kind name key_items value_items g.K.Native.Archive.archival g.V.Native.Archive.archival Any c.in-Ok.heading es fault) all (h key_to value_to keys values maps))) c.archive.ensures.err
