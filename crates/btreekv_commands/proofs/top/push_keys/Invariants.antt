use Rattle.std.proofs.Common.{◌≡◌, ◌++◌}
use Rattle.btreekv_commands.specs.mirror.Levels.{key_parts}
use Rattle.btreekv_commands.proofs.top.push_keys.Given as goal

abbrev pub invariant-keys : goal.invariant-keys
invariant-keys l = l.parts.items ≡ l.initial.parts.items ++ key_parts l.archive l.node l.index
