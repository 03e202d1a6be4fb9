use Rattle.std.proofs.Common.{◌≢◌, ℕ, ◌<◌, slice_index}
use Rattle.btreekv_commands.proofs.lines.split_at_first.Given as goal

-- no byte so far is this one
abbrev pub invariant-loop-at : goal.invariant-loop-at
invariant-loop-at l = (k : ℕ) → k < l.at → slice_index l.bytes k ≢ l.byte
