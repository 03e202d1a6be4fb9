-- The line is that of the value which the look-up gives.
use Rattle.std.proofs.Common.{◌≡◌, None, Some, refl, rules, string_bytes}
use Rattle.btreekv_commands.specs.Forms.{value_line}
use Rattle.btreekv_commands.proofs.LookedUp.{fails_to_search, writes_found}
use Rattle.btreekv_commands.proofs.sourced.line_of.Goals as goal

pub returns-in-Ok-None-clause-ok : goal.returns-in-Ok-None-clause-ok
returns-in-Ok-None-clause-ok g c b known place =
    let gives = c.in-Ok-None.ensures.value b known place in
    writes_found b c.args.key.now c.new.result.items 1 c.args.form None (rw (c.in-Ok-None.field-0-is, c.as_str.ensures.value) at gives) (search rules, refl)

pub returns-in-Ok-clause-ok : goal.returns-in-Ok-clause-ok
returns-in-Ok-clause-ok g c b known place =
    let gives = c.in-Ok-Some.ensures.value b known place in
    let line : c.in-Ok.line.items ≡ value_line c.args.form (string_bytes c.in-Ok-Some.value) = search rules in
    writes_found b c.args.key.now c.in-Ok.line.items 0 c.args.form (Some c.in-Ok-Some.value) (rw (c.in-Ok-Some.field-0-is, c.as_str.ensures.value) at gives) (line, refl)

pub returns-clause-err : goal.returns-clause-err
returns-clause-err g c b known place =
    let gives = c.in-Err.ensures.value b known place in
    fails_to_search b _ c.in-Err.fault (rw c.as_str.ensures.value at gives)
