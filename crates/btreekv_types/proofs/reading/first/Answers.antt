-- The first entry is written.
use Rattle.std.proofs.Common.{subst}
use Rattle.std.proofs.lemmas.Result.{IfOk-weaker}
use Rattle.rkyv_btree_view.specs.View.{entries_of}
use Rattle.btreekv_commands.specs.Commands.{WrittenEntry}
use Rattle.btreekv_types.proofs.Shown.{first_shown}
use Rattle.btreekv_types.proofs.reading.first.Goals as goal

pub returns-clause-ok : goal.returns-clause-ok
returns-clause-ok g c =
    let entries = entries_of g.K.Portable.kind g.V.Portable.kind 5 c.in-Ok.map in
    IfOk-weaker c.written_entry.result _ _ (λ r written key_to value_to keys values maps. (
      entries,
      c.in-Ok.ensures.input,
      subst (λ o. WrittenEntry c.args.form o r.0.items r.1)
          (first_shown (g.K.Item.spelling c.args.style) g.K.Item.value_at key_to (g.V.Item.spelling c.args.style) g.V.Item.value_at value_to keys.read values.read g.K.Item.IsValue g.V.Item.IsValue c.first.result entries c.first.ensures) written,
    )) c.written_entry.ensures.ok
