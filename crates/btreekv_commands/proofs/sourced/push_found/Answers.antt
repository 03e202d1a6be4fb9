-- The line is that of the value which the look-up gives.
use Rattle.std.proofs.Common.{false, true, None, Some, refl, rules}
use Rattle.btreekv_commands.proofs.LookedUp.{appends_found, fails_to_search}
use Rattle.btreekv_commands.proofs.sourced.push_found.Goals as goal

pub returns-in-Ok-None-clause-ok : goal.returns-in-Ok-None-clause-ok
returns-in-Ok-None-clause-ok g c b known place =
    let gives = c.in-Ok-None.ensures.value b known place in
    appends_found b c.args.key.now _ _ false None (rw c.in-Ok-None.field-0-is at gives) refl (search rules)

pub returns-in-Ok-clause-ok : goal.returns-in-Ok-clause-ok
returns-in-Ok-clause-ok g c b known place =
    let gives = c.in-Ok-Some.ensures.value b known place in
    appends_found b c.args.key.now _ _ true (Some c.in-Ok-Some.value) (rw c.in-Ok-Some.field-0-is at gives) refl (search rules)

pub returns-clause-err : goal.returns-clause-err
returns-clause-err g c b known place = fails_to_search b _ c.in-Err.fault (c.in-Err.ensures.value b known place)
