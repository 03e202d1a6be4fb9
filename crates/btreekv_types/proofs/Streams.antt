-- What is written, entry by entry or at once, is what a command writes; and its errors.
use Rattle.std.proofs.Common.{◌≡◌, ℕ, List, Option, Some, Result, Ok, Err, IfOk, IfErr, inl, inr, refl, subst, sym}
use Rattle.std.specs.Io.KnownBytes.{Appends}
use Rattle.rkyv_btree_portable.specs.Kind.{Kind}
use Rattle.rkyv_btree_writer.specs.Archiving.{Archival}
use Rattle.btreearc_lines.specs.Faults.{IsWriteFault}
use Rattle.btreearc_lines.specs.declared.fault.ProgramFault.{ProgramFault}
use Rattle.btreearc_lines.specs.declared.fault.ProgramFault.TheVariants as program
use Rattle.btreekv_types.specs.Commands.{Does, Fails, Outputs}
use Rattle.btreekv_types.specs.Typed.{Items}
use Rattle.btreekv_types.specs.declared.command.TypedCommand.{TypedCommand}
use Rattle.btreekv_types.specs.declared.command.TypedCommand.TheVariants as command
use Rattle.btreekv_types.specs.declared.fault.TypedFault.{TypedFault}
use Rattle.btreekv_types.specs.declared.fault.TypedFault.TheVariants.{Program, Archive, BadKey, BadValue, NoKey, NoLow, NoHigh}

module _ (K V : Kind) (name : List ℕ) (keys : Items K.Value) (values : Items V.Value) {X R Y S : Type 0} (KA : Archival X R) (VA : Archival Y S) (bytes : List ℕ) where
  pub streamed : (command : TypedCommand) {Streams : Type 0} (old new : Option (List ℕ)) (text : List ℕ) → Outputs K V name keys values command bytes text 0 → (Streams → Appends old new text) → (result : Result ℕ TypedFault)
      → IfOk result (λ status. (status ≡ 0) × Streams) → IfErr result (λ fault. fault ≡ Program program.OutputFailed) → Does K V name keys values KA VA command (Some bytes) old new result
  streamed command old new text outputs appends (Ok status) ok err = (text, subst (Outputs K V name keys values command bytes text) (sym ok.0) outputs, appends ok.1)
  streamed command old new text outputs appends (Err fault) ok err = subst (λ (f : TypedFault). Does K V name keys values KA VA command (Some bytes) old new (Err f)) (sym err) (text, 0, outputs)

  -- no command fails to make its output by a write
  no_write_fault : (command : TypedCommand) → Fails K V name keys values KA VA command bytes (Program program.OutputFailed) → ⊥
  no_write_fault (command.Build source order heading) h = h.2
  no_write_fault (command.List form) h = h
  no_write_fault command.Check h = h
  no_write_fault command.CheckStrict h = h
  no_write_fault (command.First form) h = h
  no_write_fault (command.Last form) h = h
  no_write_fault (command.Get word form) h = h
  no_write_fault (command.Range low high form) h = h
  no_write_fault (command.Set key value) (inl h) = h
  no_write_fault (command.Set key value) (inr h) = h.4
  no_write_fault (command.Merge others) h = h.4
  no_write_fault (command.Update order lines) h = h
  no_write_fault (command.Diff other) h = h
  no_write_fault (command.Prefix prefix form) h = h

  -- a command that makes no output writes nothing
  pub unmade : (command : TypedCommand) (held : Option (List ℕ)) (fault : TypedFault) → Fails K V name keys values KA VA command bytes fault → Does K V name keys values KA VA command (Some bytes) held held (Err fault)
  unmade command held (Program program.Usage) h = (h, refl)
  unmade command held (Program (program.Line n)) h = (h, refl)
  unmade command held (Program (program.Refused e)) h = (h, refl)
  unmade command held (Program (program.Misheaded e)) h = (h, refl)
  unmade command held (Program (program.NotBuilt e)) h = (h, refl)
  unmade command held (Program program.InputFailed) h = refl
  unmade command held (Program program.OutputFailed) h = absurd (no_write_fault command h)
  unmade command held (Program program.Memory) h = refl
  unmade command held (Archive n e) h = (h, refl)
  unmade command held (BadKey n) h = (h, refl)
  unmade command held (BadValue n) h = (h, refl)
  unmade command held NoKey h = (h, refl)
  unmade command held NoLow h = (h, refl)
  unmade command held NoHigh h = (h, refl)

  -- an output was made, if a write fails
  pub unwritten : (command : TypedCommand) (old new : Option (List ℕ)) (text : List ℕ) (status : ℕ) → Outputs K V name keys values command bytes text status → (fault : ProgramFault) → IsWriteFault fault
      → Does K V name keys values KA VA command (Some bytes) old new (Err (Program fault))
  unwritten command old new text status outputs program.OutputFailed h = (text, status, outputs)
  unwritten command old new text status outputs _ h = absurd h
