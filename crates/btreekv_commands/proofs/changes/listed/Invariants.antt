use Rattle.std.proofs.Common.{◌≡◌}
use Rattle.btreekv_commands.proofs.changes.listed.Given as goal

abbrev pub invariant-loop-key : goal.invariant-loop-key
invariant-loop-key l = l.list.items ≡ l.yielded
