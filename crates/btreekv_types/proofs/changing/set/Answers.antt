-- The entries and one more are archived, or the cause is passed on.
use Rattle.std.proofs.Common.{◌≡◌, ◌∙◌, ◌++◌, ◌∷◌, [], List, ap, inl, inr, map, refl, rules, subst, string_bytes}
use Rattle.std.proofs.lemmas.Result.{IfOk-weaker, IfErr-weaker}
use Rattle.rkyv_btree_typed.specs.TypeNames.{name_of}
use Rattle.rkyv_btree_typed.specs.TypeNames as term
use Rattle.btreekv_commands.specs.Lines.{Entry}
use Rattle.btreekv_commands.specs.Texts.{texts_of}
use Rattle.btreekv_types.specs.Commands.{IsBuiltOf, IsUnbuiltOf}
use Rattle.btreekv_types.specs.Typed.{items_by}
use Rattle.btreekv_types.specs.declared.command.Order.TheVariants.{Any}
use Rattle.btreekv_types.proofs.Read.{both}
use Rattle.btreekv_types.proofs.changing.set.Goals as goal

pub returns-in-Err-clause-err : goal.returns-in-Err-clause-err
returns-in-Err-clause-err g c = λ key_to value_to keys values maps. inl (c.in-Err.ensures.err key_to value_to keys values maps)

pub returns-clause-ok : goal.returns-clause-ok
returns-clause-ok g c =
    IfOk-weaker c.archive.result _ _ (λ file h key_to value_to keys values maps.
    let read = c.in-Ok.ensures.ok key_to value_to keys values maps in
    let none : c.new-texts.result.items ≡ [] = search rules in
    let entry : (string_bytes c.in-Ok-copied.key, string_bytes c.in-Ok-copied-2.value) ≡ (string_bytes c.args.key.now, string_bytes c.args.value.now) = both (c.in-Ok-copied.ensures.ok ∙ c.as_str.ensures.value) (c.in-Ok-copied-2.ensures.ok ∙ c.as_str-2.ensures.value) in
    let all : map texts_of c.as_slice.result.now ≡ read.0 ++ (string_bytes c.args.key.now, string_bytes c.args.value.now) ∷ [] =
    ap (map texts_of) c.as_slice.ensures.value ∙ (c.in-Ok-push_pair.ensures.ok ∙ (ap (λ (es : List Entry). es ++ (string_bytes c.in-Ok-copied.key, string_bytes c.in-Ok-copied-2.value) ∷ []) (read.2 ∙ ap (λ xs. map texts_of xs ++ read.0) none) ∙ ap (λ (e : Entry). read.0 ++ e ∷ []) entry)) in (
      refl,
      (
        c.in-Ok.heading,
        read.0,
        c.in-Ok.ensures.headed,
        read.1,
        subst (λ es. IsBuiltOf g.K.Portable.kind g.V.Portable.kind (name_of (term.map g.K.TypeName.term g.V.TypeName.term 5)) (items_by g.K.Item.IsValue (g.K.Item.spelling c.args.style) key_to) (items_by g.V.Item.IsValue (g.V.Item.spelling c.args.style) value_to) Any c.in-Ok.heading es file.items)
            all (h key_to value_to keys values maps),
      ),
    )) c.archive.ensures.ok

pub returns-clause-err : goal.returns-clause-err
returns-clause-err g c =
    IfErr-weaker c.archive.result _ _ (λ fault h key_to value_to keys values maps.
    let read = c.in-Ok.ensures.ok key_to value_to keys values maps in
    let none : c.new-texts.result.items ≡ [] = search rules in
    let entry : (string_bytes c.in-Ok-copied.key, string_bytes c.in-Ok-copied-2.value) ≡ (string_bytes c.args.key.now, string_bytes c.args.value.now) = both (c.in-Ok-copied.ensures.ok ∙ c.as_str.ensures.value) (c.in-Ok-copied-2.ensures.ok ∙ c.as_str-2.ensures.value) in
    let all : map texts_of c.as_slice.result.now ≡ read.0 ++ (string_bytes c.args.key.now, string_bytes c.args.value.now) ∷ [] =
    ap (map texts_of) c.as_slice.ensures.value ∙ (c.in-Ok-push_pair.ensures.ok ∙ (ap (λ (es : List Entry). es ++ (string_bytes c.in-Ok-copied.key, string_bytes c.in-Ok-copied-2.value) ∷ []) (read.2 ∙ ap (λ xs. map texts_of xs ++ read.0) none) ∙ ap (λ (e : Entry). read.0 ++ e ∷ []) entry)) in
    inr (
      c.in-Ok.heading,
      read.0,
      c.in-Ok.ensures.headed,
      read.1,
      subst (λ es. IsUnbuiltOf g.K.Portable.kind g.V.Portable.kind (name_of (term.map g.K.TypeName.term g.V.TypeName.term 5)) (items_by g.K.Item.IsValue (g.K.Item.spelling c.args.style) key_to) (items_by g.V.Item.IsValue (g.V.Item.spelling c.args.style) value_to) g.K.Native.Archive.archival g.V.Native.Archive.archival Any c.in-Ok.heading es fault)
          all (h key_to value_to keys values maps),
    )) c.archive.ensures.err
