-- The lines are those of the values that native keys mean, or a key is no text of the type.
use Rattle.std.proofs.Common.{◌∙◌, map}
use Rattle.std.proofs.lemmas.Result.{IfOk-weaker, IfErr-weaker}
use Rattle.btreekv_commands.specs.Texts.{texts_of}
use Rattle.btreekv_types.proofs.DiffTexts.{lines_meant}
use Rattle.btreekv_types.proofs.differing.lines_of.Goals as goal

pub returns-in-Err-clause-err : goal.returns-in-Err-clause-err
returns-in-Err-clause-err g c = λ good. c.in-Err.ensures.err good.0

pub returns-in-Err-with_natives-clause-err : goal.returns-in-Err-with_natives-clause-err
returns-in-Err-with_natives-clause-err g c = λ good. c.in-Err-with_natives.ensures.err good.1

pub returns-clause-ok : goal.returns-clause-ok
returns-clause-ok g c =
    IfOk-weaker c.changed_lines.result _ _ (λ text is m n olds news.
    rw (c.as_slice.ensures.value, c.as_slice-2.ensures.value) at is
    ∙ lines_meant g.K.Native.Ord.cmp g.K.Item.order g.K.Item.native_value g.met.K.Item.same_values.natively g.K.Item.IsValue (g.K.Item.spelling c.args.style) (g.met.K.Item.apart c.args.style)
    (map texts_of c.args.old.items) (map texts_of c.args.new.items) c.in-Ok.old.items c.in-Ok-with_natives.new.items m n c.in-Ok.ensures.ok c.in-Ok-with_natives.ensures.ok olds news) c.changed_lines.ensures.ok

pub returns-clause-err : goal.returns-clause-err
returns-clause-err g c = IfErr-weaker c.changed_lines.result _ _ (λ fault is good. is) c.changed_lines.ensures.err
