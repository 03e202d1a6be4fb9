use Rattle.std.proofs.Common.{◌++◌, [], ◌∷◌}
use Rattle.std.proofs.iter.Next.{Yields-more}
use Rattle.btreekv_commands.proofs.Listed.{text_more}
use Rattle.btreekv_commands.proofs.listing.write_entries.Goals as goal

pub loop-key-preserved : goal.loop-key-preserved
loop-key-preserved g c =
    let before = c.loop-key.invariant in
    let items = before.2.0 in
    let steps = g.I.Iterator.next_gives in
    let on = c.in-Some.ensures.goes.on before.1 in (
      on.0,
      on.1,
      (
        items ++ (c.in-Some.key, c.in-Some.value) ∷ [],
        Yields-more steps c.args.entries items c.loop-key.entries (c.in-Some.key, c.in-Some.value) c.next.new.self before.2.1 c.in-Some.ensures.steps,
        text_more c.args.form _ items (c.in-Some.key, c.in-Some.value) _ _ _ _ _ before.2.2 c.in_ok-push_entry.ensures c.as_str.ensures c.as_str-in-Some.ensures,
      ),
    )
