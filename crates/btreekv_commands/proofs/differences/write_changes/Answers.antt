use Rattle.std.proofs.Common.{◌++◌, [], ◌∷◌}
use Rattle.std.proofs.iter.Next.{Yields-more}
use Rattle.btreekv_commands.specs.Changing.{lent_change}
use Rattle.btreekv_commands.proofs.ChangesListed.{text_more}
use Rattle.btreekv_commands.proofs.differences.write_changes.Goals as goal

pub loop-key-preserved : goal.loop-key-preserved
loop-key-preserved g c =
    let before = c.loop-key.invariant in
    let items = before.2.0 in
    let steps = g.I.Iterator.next_gives in
    let on = c.in-Some.ensures.goes.on before.1 in (
      on.0,
      on.1,
      (
        items ++ (c.in-Some.key, c.in-Some.change) ∷ [],
        Yields-more steps c.args.changes items c.loop-key.changes (c.in-Some.key, c.in-Some.change) c.next.new.self before.2.1 c.in-Some.ensures.steps,
        text_more lent_change items (c.in-Some.key, c.in-Some.change) _ _ _ before.2.2 c.in_ok-write_change.ensures,
      ),
    )
