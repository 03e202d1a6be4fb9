-- The entries of the text are archived, or the cause is passed on.
use Rattle.std.proofs.Common.{List, map, refl, subst, sym}
use Rattle.std.proofs.lemmas.Result.{IfOk-weaker, IfErr-weaker}
use Rattle.rkyv_btree_typed.specs.TypeNames.{name_of}
use Rattle.rkyv_btree_typed.specs.TypeNames as term
use Rattle.btreekv_commands.specs.Building.{Native}
use Rattle.btreekv_commands.specs.Texts.{texts_of}
use Rattle.btreekv_types.specs.Sources.{AreTexts}
use Rattle.btreekv_types.specs.Typed.{items_by}
use Rattle.btreekv_types.proofs.BuildFails.{text_fails, unbuilt_fails}
use Rattle.btreekv_types.proofs.output.build.Goals as goal

pub returns-in-Err-clause-err : goal.returns-in-Err-clause-err
returns-in-Err-clause-err g c = λ key_to value_to keys values maps.
    text_fails g.K.Portable.kind g.V.Portable.kind (name_of (term.map g.K.TypeName.term g.V.TypeName.term 5)) (items_by g.K.Item.IsValue (g.K.Item.spelling c.args.style) key_to) (items_by g.V.Item.IsValue (g.V.Item.spelling c.args.style) value_to)
    g.K.Native.Archive.archival g.V.Native.Archive.archival c.args.source c.args.order c.args.heading c.args.text.now c.in-Err.fault c.in-Err.ensures.err

pub returns-clause-ok : goal.returns-clause-ok
returns-clause-ok g c =
    let are = subst (λ (xs : List Native). AreTexts c.args.source c.args.text.now (map texts_of xs)) (sym c.as_slice.ensures.value) c.in-Ok.ensures.ok in
    IfOk-weaker c.archive.result _ _ (λ bytes h key_to value_to keys values maps. (refl, (map texts_of c.as_slice.result.now, are, h key_to value_to keys values maps))) c.archive.ensures.ok

pub returns-clause-err : goal.returns-clause-err
returns-clause-err g c =
    let are = subst (λ (xs : List Native). AreTexts c.args.source c.args.text.now (map texts_of xs)) (sym c.as_slice.ensures.value) c.in-Ok.ensures.ok in
    IfErr-weaker c.archive.result _ _ (λ fault h key_to value_to keys values maps.
    unbuilt_fails g.K.Portable.kind g.V.Portable.kind (name_of (term.map g.K.TypeName.term g.V.TypeName.term 5)) (items_by g.K.Item.IsValue (g.K.Item.spelling c.args.style) key_to) (items_by g.V.Item.IsValue (g.V.Item.spelling c.args.style) value_to)
    g.K.Native.Archive.archival g.V.Native.Archive.archival c.args.source c.args.order c.args.heading c.args.text.now (map texts_of c.as_slice.result.now) are fault (h key_to value_to keys values maps)) c.archive.ensures.err
