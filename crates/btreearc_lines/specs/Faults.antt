-- What the program's faults say, and which come from reading and from writing.
use Rattle.std.specs.Prelude.{ℕ, List, ◌++◌, Option, Some, None, codes, decimal, alloc_error}
use Rattle.std.specs.declared.alloc.AllocError.{AllocError}
use Rattle.rkyv_btree_archive.specs.declared.try_build.TryFault.{TryFault}
use Rattle.rkyv_btree_archive.specs.declared.try_build.TryFault.TheVariants.{Item, Build}
use Rattle.rkyv_btree_writer.specs.declared.fault.Fault.{Fault}
use Rattle.rkyv_btree_writer.specs.declared.fault.Fault.TheVariants as building
use Rattle.rkyv_btree_writer.specs.FaultText.{fault_text}
use Rattle.rkyv_btree_portable.specs.RefusalText.{refusal_text}
use Rattle.rkyv_btree_typed.specs.TypeHeader.{header_text}
use Rattle.rkyv_btree_typed.specs.declared.header.HeaderFault.TheVariants.{OtherVersion as HasVersion}
use Rattle.btreearc_lines.specs.declared.fault.ProgramFault.{ProgramFault}
use Rattle.btreearc_lines.specs.declared.heading.HeadingFault.TheVariants.{OtherVersion, OtherType}
use Rattle.btreearc_lines.specs.declared.fault.ProgramFault.TheVariants.{Usage, Line, Refused, Misheaded, NotBuilt, InputFailed, OutputFailed, Memory}

-- the line that is printed for a fault; the one with the names of two types isn't specified
abbrev pub line_of : ProgramFault → Option (List ℕ)
line_of Usage = Some (codes "usage: btreearc build [untyped] | list | get KEY | range LOW HIGH | check | set KEY VALUE | build-strict [untyped] | check-strict | migrate")
line_of (Line n) = Some (codes "btreearc: line " ++ (decimal n ++ codes ": not KEY VALUE"))
line_of (Refused refusal) = Some (codes "btreearc: refused: " ++ refusal_text refusal)
line_of (Misheaded (OtherVersion version)) = Some (codes "btreearc: refused: " ++ header_text (HasVersion version))
line_of (Misheaded (OtherType found)) = None
line_of (NotBuilt fault) = Some (codes "btreearc: not built: " ++ fault_text fault)
line_of InputFailed = Some (codes "btreearc: input failed")
line_of OutputFailed = Some (codes "btreearc: output failed")
line_of Memory = Some (codes "btreearc: out of memory")

-- a fault of reading all input
abbrev pub IsReadFault : ProgramFault → Type 0
IsReadFault InputFailed = Unit {0}
IsReadFault Memory = Unit {0}
IsReadFault _ = ⊥

-- a fault of writing all output
abbrev pub IsWriteFault : ProgramFault → Type 0
IsWriteFault OutputFailed = Unit {0}
IsWriteFault _ = ⊥

-- an item failed because reading has failed, or no item failed
abbrev pub IsReadTry : {E : Type 0} → TryFault E ProgramFault → Type 0
IsReadTry (Item fault) = IsReadFault fault
IsReadTry (Build fault) = Unit {0}

-- the same error of building, where a writer's own error is one of memory
abbrev pub in_memory : {E : Type 0} → Fault E → Fault AllocError
in_memory (building.Length mismatch) = building.Length mismatch
in_memory building.LengthOverflow = building.LengthOverflow
in_memory building.PositionOverflow = building.PositionOverflow
in_memory building.OffsetOverflow = building.OffsetOverflow
in_memory (building.Writer error) = building.Writer alloc_error
in_memory (building.Memory error) = building.Memory error
in_memory (building.Entry fault) = building.Entry fault
in_memory (building.OutOfOrder index) = building.OutOfOrder index

-- the program's error for one of building
abbrev pub program_fault : {E : Type 0} → TryFault E ProgramFault → ProgramFault
program_fault (Item fault) = fault
program_fault (Build fault) = NotBuilt (in_memory fault)
