use Rattle.std.proofs.Common.{◌≡◌, map}
use Rattle.btreekv_commands.specs.Building.{last_values}
use Rattle.btreekv_commands.specs.Texts.{texts_of}
use Rattle.btreekv_commands.proofs.building.sorted.Given as goal

-- the map so far has the last values of the entries so far
abbrev pub invariant-loop-key : goal.invariant-loop-key
invariant-loop-key l = map texts_of l.sorted.entries ≡ last_values (map texts_of l.yielded)
