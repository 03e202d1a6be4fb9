use Rattle.std.proofs.Common.{◌≡◌, map, length}
use Rattle.btreekv_commands.specs.Texts.{texts_of}
use Rattle.btreekv_commands.proofs.Recorded.{Read}
use Rattle.btreekv_commands.proofs.records.parse_records.Given as goal

-- the records before the rest are the entries so far
abbrev pub invariant-loop-rest : goal.invariant-loop-rest
invariant-loop-rest l = Read l.fn.form l.fn.bytes l.rest (map texts_of l.entries.items)

abbrev pub decreases-loop-rest : goal.decreases-loop-rest
decreases-loop-rest l = length l.rest
