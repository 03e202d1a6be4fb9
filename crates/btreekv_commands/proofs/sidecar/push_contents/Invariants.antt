use Rattle.std.proofs.Common.{◌≡◌, ◌++◌, List, take}
use Rattle.rkyv_btree_portable.specs.declared.check.Window.{Window}
use Rattle.btreekv_commands.specs.Sidecar.{contents}
use Rattle.btreekv_commands.proofs.sidecar.push_contents.Given as goal

-- with what is written later, it is what is written of all pieces
abbrev pub invariant-pieces : goal.invariant-pieces
invariant-pieces l =
    (later : List Window) → l.out.items ++ contents l.archive later ≡ l.initial.out.items ++ contents l.archive (take l.piece-index l.pieces ++ later)
