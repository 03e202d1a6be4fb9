-- One more record, and the end.
use Rattle.std.proofs.Common.{[], ◌∷◌, ◌++◌, refl}
use Rattle.std.proofs.iter.Next.{Yields-more}
use Rattle.std.proofs.KnownBytes.{Appends-nil}
use Rattle.btreekv_commands.proofs.Streamed.{row_streamed}
use Rattle.btreekv_commands.proofs.list.stream_rows.Goals as goal

pub loop-key-init : goal.loop-key-init
loop-key-init g c = (c.requires.can, c.requires.ends, ([], refl, Appends-nil _))

pub loop-key-preserved : goal.loop-key-preserved
loop-key-preserved g c =
    let before = c.loop-key.invariant in
    let items = before.2.0 in
    let steps = g.I.Iterator.next_gives in
    let on = c.in-Some.ensures.goes.on before.1 in (
      on.0,
      on.1,
      (
        items ++ (c.in-Some.key, c.in-Some.value) ∷ [],
        Yields-more steps c.args.entries items c.loop-key.entries (c.in-Some.key, c.in-Some.value) c.next.new.self before.2.1 c.in-Some.ensures.steps,
        row_streamed _ items (c.in-Some.key, c.in-Some.value) _ _ _ c.args.table _ _ before.2.2 c.in_ok-write_row.ensures.ok c.as_str.ensures c.as_str-in-Some.ensures,
      ),
    )

pub returns-clause-ok : goal.returns-clause-ok
returns-clause-ok g c =
    let before = c.loop-key.invariant in
    (before.2.0, (c.next.new.self, (c.loop-key.entries, before.2.1, c.in_default.ensures.steps)), before.2.2)
