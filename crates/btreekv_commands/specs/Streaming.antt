-- Building from an input that is read more than once.
use Rattle.std.specs.Prelude.{◌≡◌, ℕ, Bool, true, false, List, length}
use Rattle.btreearc_lines.specs.declared.heading.Heading.{Heading}
use Rattle.btreekv_commands.specs.Building.{IsBuilt}
use Rattle.btreekv_commands.specs.Lines.{Entry as TextEntry, AreLines}
use Rattle.btreekv_commands.specs.Opening.{KeysIncrease}
use Rattle.btreekv_commands.specs.declared.command.Command.{Command}
use Rattle.btreekv_commands.specs.declared.command.Command.TheVariants.{Build, BuildStrict}

-- the command that builds, of keys that must increase, or in any order
abbrev pub build_command : Bool → Heading → Command
build_command true heading = BuildStrict heading
build_command false heading = Build heading

-- keys increase if they must
abbrev pub IsInOrder : Bool → List TextEntry → Type 0
IsInOrder true entries = KeysIncrease entries
IsInOrder false entries = Unit {0}

-- bytes are so many lines, of which there is an archive, and their keys increase if they must
pub record IsTested (is_strict : Bool) (heading : Heading) (count : ℕ) (bytes : List ℕ) : Type 0 where
  pub entries : List TextEntry
  pub are : AreLines bytes entries
  pub number : count ≡ length entries
  pub order : IsInOrder is_strict entries
  pub text : List ℕ
  pub archive : IsBuilt heading text entries
