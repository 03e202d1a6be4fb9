-- One more entry.
use Rattle.std.proofs.Common.{[], ◌∷◌, ◌++◌, refl, ◌∙◌}
use Rattle.std.proofs.iter.Next.{Yields-more}
use Rattle.btreekv_types.specs.Typed.{texts_shown}
use Rattle.btreekv_types.proofs.ListWritten.{item_written, none_written, some_written}
use Rattle.btreekv_types.proofs.listing.stream.Goals as goal

pub loop-key-init : goal.loop-key-init
loop-key-init g c = (c.requires.can, c.requires.ends, ([], refl, none_written c.args.form _, refl))

pub loop-key-preserved : goal.loop-key-preserved
loop-key-preserved g c =
    let before = c.loop-key.invariant in
    let items = before.2.0 in
    let steps = g.I.Iterator.next_gives in
    let on = c.in-Some.ensures.goes.on before.1 in
    let shown = texts_shown (g.K.Item.spelling c.args.style) g.K.Item.value_at (g.V.Item.spelling c.args.style) g.V.Item.value_at in (
      on.0,
      on.1,
      (
        items ++ (c.in-Some.key, c.in-Some.value) ∷ [],
        Yields-more steps c.args.entries items c.loop-key.entries (c.in-Some.key, c.in-Some.value) c.next.new.self before.2.1 c.in-Some.ensures.steps,
        item_written shown items (c.in-Some.key, c.in-Some.value) c.args.form _ _ _ _ _ _ before.2.2 before.2.3 c.in-Ok.ensures (c.deref.ensures.value ∙ c.in-Ok-make_item.ensures) c.in_ok-write_all.ensures.all,
        some_written shown items (c.in-Some.key, c.in-Some.value),
      ),
    )

pub returns-clause-ok : goal.returns-clause-ok
returns-clause-ok g c =
    let before = c.loop-key.invariant in
    (before.2.0, (c.next.new.self, (c.loop-key.entries, before.2.1, c.in_default.ensures.steps)), before.2.2)
