use Rattle.std.proofs.Common.{◌≡◌, ◌++◌, List, take}
use Rattle.rkyv_btree_portable.specs.declared.check.Window.{Window}
use Rattle.btreekv_commands.specs.mirror.Levels.{joined_to}
use Rattle.btreekv_commands.proofs.top.joined.Given as goal

-- with what comes later, the pieces so far and the last one are what all of it gives
abbrev pub invariant-parts : goal.invariant-parts
invariant-parts l =
    (later : List Window) → l.pieces.items ++ joined_to l.piece later ≡ joined_to l.initial.piece (take l.part-index l.rest ++ later)
