-- What a lookup that is explained finds, and why an archive isn't explained.
use Rattle.std.specs.Prelude.{◌≡◌, ℕ, List, Option, Some, None}
use Rattle.btreearc_lines.specs.declared.fault.ProgramFault.{ProgramFault}
use Rattle.btreearc_lines.specs.declared.fault.ProgramFault.TheVariants.{OutputFailed, Memory}
use Rattle.btreekv_commands.specs.Commands.{found_in_archive}
use Rattle.btreekv_commands.specs.Lines.{Entry}
use Rattle.btreekv_commands.specs.List.{FailsToList}
use Rattle.btreekv_commands.specs.Opening.{IsInput}

-- writing the output failed, or there is no memory
abbrev pub IsOutputFault : ProgramFault → Type 0
IsOutputFault OutputFailed = Unit {0}
IsOutputFault Memory = Unit {0}
IsOutputFault _ = ⊥

-- as of a list; or there is no memory
abbrev pub FailsToExplain : List ℕ → Type 0 → ProgramFault → Type 0
FailsToExplain input Unwritten Memory = Unit {0}
FailsToExplain input Unwritten fault = FailsToList input Unwritten fault

-- 0 if an entry is found, and else 1
abbrev pub found_status : Option Entry → ℕ
found_status None = 1
found_status (Some e) = 0

-- the way of a lookup in an archive ends with the status of what the lookup finds
abbrev pub EndsWay : List ℕ → List ℕ → ℕ → Type 0
EndsWay input key status = ((entries : List Entry) × IsInput input entries) × (status ≡ found_status (found_in_archive input key))
