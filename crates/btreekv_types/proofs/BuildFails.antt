-- Why no archive is built of an input.
use Rattle.std.proofs.Common.{ℕ, List}
use Rattle.rkyv_btree_portable.specs.Kind.{Kind}
use Rattle.rkyv_btree_writer.specs.Archiving.{Archival}
use Rattle.btreearc_lines.specs.declared.fault.ProgramFault.{ProgramFault}
use Rattle.btreearc_lines.specs.declared.fault.ProgramFault.TheVariants as fault
use Rattle.btreearc_lines.specs.declared.heading.Heading.{Heading}
use Rattle.btreekv_commands.specs.Lines.{Entry}
use Rattle.btreekv_types.specs.Commands.{FailsToBuild, IsUnbuiltOf}
use Rattle.btreekv_types.specs.Sources.{AreTexts, IsTextFault}
use Rattle.btreekv_types.specs.Typed.{Items}
use Rattle.btreekv_types.specs.declared.command.Order.{Order}
use Rattle.btreekv_types.specs.declared.fault.TypedFault.{TypedFault}
use Rattle.btreekv_types.specs.declared.fault.TypedFault.TheVariants.{Program, Archive, BadKey, BadValue, NoKey, NoLow, NoHigh}
use Rattle.btreekv_types.specs.declared.source.Source.{Source}

module _ {X R Y S : Type 0} (K V : Kind) (name : List ℕ) (keys : Items K.Value) (values : Items V.Value) (KA : Archival X R) (VA : Archival Y S) (source : Source) (order : Order) (heading : Heading) (input : List ℕ) where
  -- its text isn't read
  pub text_fails : (fault : ProgramFault) → IsTextFault source input fault → FailsToBuild K V name keys values KA VA source order heading input (Program fault)
  text_fails fault.Usage h = absurd h
  text_fails (fault.Line n) h = h
  text_fails (fault.Refused e) h = absurd h
  text_fails (fault.Misheaded e) h = absurd h
  text_fails (fault.NotBuilt e) h = absurd h
  text_fails fault.InputFailed h = h
  text_fails fault.OutputFailed h = absurd h
  text_fails fault.Memory h = tt

  -- its entries have no file
  pub unbuilt_fails : (texts : List Entry) → AreTexts source input texts → (fault : TypedFault) → IsUnbuiltOf K V name keys values KA VA order heading texts fault → FailsToBuild K V name keys values KA VA source order heading input fault
  unbuilt_fails texts are (Program fault.Usage) h = absurd h
  unbuilt_fails texts are (Program (fault.Line n)) h = absurd h
  unbuilt_fails texts are (Program (fault.Refused e)) h = absurd h
  unbuilt_fails texts are (Program (fault.Misheaded e)) h = absurd h
  unbuilt_fails texts are (Program (fault.NotBuilt e)) h = (texts, are, h)
  unbuilt_fails texts are (Program fault.InputFailed) h = absurd h
  unbuilt_fails texts are (Program fault.OutputFailed) h = absurd h
  unbuilt_fails texts are (Program fault.Memory) h = tt
  unbuilt_fails texts are (BadKey n) h = (texts, are, h)
  unbuilt_fails texts are (BadValue n) h = (texts, are, h)
  unbuilt_fails texts are NoKey h = absurd h
  unbuilt_fails texts are NoLow h = absurd h
  unbuilt_fails texts are NoHigh h = absurd h
  unbuilt_fails texts are (Archive n f) h = absurd h
