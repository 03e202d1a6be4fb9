use Rattle.std.proofs.Common.{◌≡◌, ◌++◌, ◌<◌, length, rules, ◌∙◌, arith}
use Rattle.btreekv_commands.specs.Escapes.{escape}
use Rattle.btreekv_commands.proofs.Escaped.{no_escape}
use Rattle.btreekv_commands.proofs.escapes.unescape.Goals as goal

pub returns-in_default-clause-none : goal.returns-in_default-clause-none
returns-in_default-clause-none c text same =
    no_escape text c.loop-rest.text.items c.loop-rest.rest.now (search rules) c.in_default.ensures.none (same ∙ c.loop-rest.invariant)
