use Rattle.std.proofs.Common.{◌≡◌, ◌++◌, drop, string_bytes}
use Rattle.btreekv_types.specs.mirror.Differing.{put_lines}
use Rattle.btreekv_types.proofs.differing.push_puts.Given as goal

-- what is written, and what is to come
abbrev pub invariant-entries : goal.invariant-entries
invariant-entries g l = string_bytes l.out ++ put_lines (drop l.index l.new) ≡ string_bytes l.fn.out ++ put_lines (drop l.to l.new)
